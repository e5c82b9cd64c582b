-- The names of an encoding speak of the program's atoms and rules.
use Rattle.std.proofs.Common.{◌≡◌, refl, sym, subst, ap₂, ℕ, ◌<◌, ◌≤◌, ◌^◌, true, List, [], ◌∷◌, map, filter, length, inl, inr, arith}
use Rattle.std.specs.List.{AllByRecursion, sum_by}
use Rattle.asp_base.specs.Sets.{members, In}
use Rattle.ground_program.specs.Facts.{IsProgram}
use Rattle.ground_program.specs.Ground.{Ground}
use Rattle.ground_program.specs.Size.{rule_size, size}
use Rattle.rising_numbers.proofs.RisingLaws.{members-above}
use Rattle.tangle_laws.proofs.PartSums.{total, total-le}
use Rattle.acyc_edges.specs.declared.name.Name.{Name}
use Rattle.acyc_edges.specs.declared.name.Name.TheVariants.{Atom, Complement, Fires, Chosen, Left, Backed, NoLater, Backs}
use Rattle.acyc_edges.specs.Encoding.{counted, rule_at, is_head, rules_of, head_at}
use Rattle.acyc_edges.specs.Names.{is_new, atom_of_name, same_name}
use Rattle.acyc_edges.specs.private.Numbers.{number_of, numbered}
use Rattle.acyc_edges.specs.private.Sources.{Source, AreNames}
use Rattle.acyc_edges.specs.private.Tables.{IsOne, HasHead, NameFits}
use Rattle.acyc_edges.proofs.Inside.{in-any, filter-in, in-each, each-in, in-member, member-in}
use Rattle.acyc_edges.proofs.NameLaws.{is-same_name}
use Rattle.acyc_edges.proofs.Numbering.{number-is}
use Rattle.acyc_edges.proofs.Sources.{is_head-atom}
use Rattle.acyc_edges.proofs.TableLaws.{rule-below}
use Rattle.acyc_edges.proofs.Totals.{total-one, total-sum_by}

module _ (P : Ground) (program : IsProgram P) (part : ℕ → ℕ) (parts : List ℕ) where
  is-one : (a : ℕ) → members P.atoms a ≡ true → IsOne P a
  is-one a h =
      let low : 0 < a = members-above 0 P.atoms a program.atoms_rise h in
      let high : a ≤ 2 ^ 30 = each-in (λ x. x ≤ 2 ^ 30) P.atoms a program.atoms_fit (member-in P.atoms a h) in let below : a < 2 ^ 31 = omega arith in (h, low, below)

  has-head : (names : List Name) (i : ℕ) → Source P part parts names (Fires i) → HasHead P part i
  has-head names i s = (rule-below P part parts i (head_at P part parts i) s.1, is-one (head_at P part parts i) s.0.0, in-member (rules_of P part parts (head_at P part parts i)) i s.1)

  source-fits : (names : List Name) (n : Name) → Source P part parts names n → NameFits P part n
  source-fits names (Atom a) s = is-one a s.0
  source-fits names (Complement a) s = is-one a s.0
  source-fits names (Fires i) s = has-head names i s
  source-fits names (Chosen a b) s = (is-one a s.0.0, is-one b s.1.0)
  source-fits names (Left a b) s = tt
  source-fits names (Backed a) s = is-one a s.0.0
  source-fits names (NoLater a c) s = is-one a s.0.0
  source-fits names (Backs i) s = has-head names i (s.0, s.1)

  pub names-fit : (names : List Name) → AreNames P part parts names → AllByRecursion (NameFits P part) names
  names-fit names are = in-each (NameFits P part) names (λ n h. source-fits names n (are.source n h))

-- the rules of an atom have it as their head
pub rules-headed : (P : Ground) → IsProgram P → (part : ℕ → ℕ) (a : ℕ) → members P.atoms a ≡ true → AllByRecursion (HasHead P part) (rules_of P part [] a)
rules-headed P program part a m = in-each (HasHead P part) (rules_of P part [] a)
    (λ i h. let is : head_at P part [] i ≡ a = is_head-atom (rule_at P.rules i).head a ((filter-in (λ j. is_head (rule_at P.rules j).head a) (counted 0 P.rules) i h).1) in
    (rule-below P part [] i a h, subst (IsOne P) (sym is) (is-one P program part [] a m), subst (λ b. members (rules_of P part [] b) i ≡ true) (sym is) (in-member (rules_of P part [] a) i h)))

map-same : (f g : Name → ℕ) (names : List Name) → ((n : Name) → In n names → f n ≡ g n) → map f names ≡ map g names
map-same f g [] h = refl
map-same f g (n ∷ names) h = ap₂ (λ x xs. x ∷ xs) (h n (inl refl)) (map-same f g names (λ m i. h m (inr i)))

-- the atoms that were drawn are those of the new names
pub drawn-same : (atoms : List ℕ) (names : List Name) → map (number_of (numbered atoms names)) (filter is_new names) ≡ map (atom_of_name atoms names) (filter is_new names)
drawn-same atoms names = map-same (number_of (numbered atoms names)) (atom_of_name atoms names) (filter is_new names)
    (λ n h. number-is atoms names n (in-any (λ m. same_name m n) names n ((filter-in is_new names n h).0) (is-same_name n)))

pub rules-few : (P : Ground) → length P.rules ≤ size P
rules-few P =
    let low : total (λ rule. 1) P.rules ≤ total rule_size P.rules = total-le (λ rule. 1) rule_size P.rules (λ rule i. omega arith) in
    let count : total (λ rule. 1) P.rules ≡ length P.rules = total-one P.rules in
    let all : total rule_size P.rules ≡ sum_by rule_size P.rules = total-sum_by rule_size P.rules in
    omega arith
