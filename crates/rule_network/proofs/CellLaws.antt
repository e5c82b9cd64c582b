-- One new atom with its rules: for "one of these", for "all of these", and for "this one or all of
-- these". What it says, and what it adds.
use Rattle.std.proofs.Common.{◌≡◌, refl, sym, ◌∙◌, ap, ap₂, subst, ℕ, ◌+◌, ◌*◌, ◌≤◌, ◌<◌, Bool, true, ◌||◌, List, [], ◌∷◌, ◌++◌, map, length, get_or, take, arith, length-append}
use Rattle.std.specs.List.{list_any, list_all, AllByRecursion}
use Rattle.std.proofs.lemmas.Bool.{or_right, eq-eqb}
use Rattle.std.proofs.lemmas.List.{map_push, take_more, take_all}
use Rattle.std.proofs.lemmas.List.Sums.{sum_by_push}
use Rattle.asp_base.specs.Literal.{Literal, Pos}
use Rattle.asp_base.specs.Sets.{members}
use Rattle.asp_base.proofs.Bools.{or_false, and_true}
use Rattle.ground_program.specs.Size.{rule_size}
use Rattle.ground_program.specs.declared.program.Head.TheVariants.{One}
use Rattle.ground_program.specs.declared.program.Body.TheVariants.{All}
use Rattle.rule_network.specs.Block.{Block, Known, AllKnown, AllBefore, IsBlock, next_atom, with_atom, with_rule, with_rules, with_cell, block_size, value, Defines, Adds}
use Rattle.rule_network.proofs.BlockLaws.{all_before-new, made-with}
use Rattle.rule_network.proofs.GrowthLaws.{next_atom-least, with_rules-are, cell-grew, cell-value, cell-known}

-- ---- sizes

pub with_rules-push : (a : ℕ) (bodies : List (List Literal)) (body : List Literal) (net : Block)
    → with_rules a (bodies ++ (body ∷ [])) net ≡ with_rule a body (with_rules a bodies net)
with_rules-push a [] body net = refl
with_rules-push a (b ∷ bodies) body net = with_rules-push a bodies body (with_rule a b net)

abbrev pub bodies_size : List (List Literal) → ℕ
bodies_size [] = 0
bodies_size (body ∷ bodies) = 1 + length body + bodies_size bodies

rule-size : (a : ℕ) (body : List Literal) (net : Block)
    → block_size (with_rule a body net) ≡ block_size net + (1 + length body)
rule-size a body net =
    omega (arith, sum_by_push rule_size net.rules (record { head = One a; body = All body }))

rules-size : (a : ℕ) (bodies : List (List Literal)) (net : Block)
    → block_size (with_rules a bodies net) ≡ block_size net + bodies_size bodies
rules-size a [] net = omega arith
rules-size a (body ∷ bodies) net =
    omega (arith, rules-size a bodies (with_rule a body net), rule-size a body net)

rules-supply : (a : ℕ) (bodies : List (List Literal)) (net : Block)
    → (with_rules a bodies net).supply ≡ net.supply
rules-supply a [] net = refl
rules-supply a (body ∷ bodies) net = rules-supply a bodies (with_rule a body net)

pub cell-adds : (bodies : List (List Literal)) (net : Block) (n : ℕ) → 1 + bodies_size bodies ≡ n
    → Adds 1 n net (with_cell bodies net)
cell-adds bodies net n e =
    let a : ℕ = next_atom net in
    let same : (with_cell bodies net).supply ≡ (with_atom a net).supply =
    rules-supply a bodies (with_atom a net) in
    let more : length (with_cell bodies net).supply.given ≡ length (net.supply.given ++ (a ∷ [])) =
    ap (λ s. length s.given) same in
    let one : length (net.supply.given ++ (a ∷ [])) ≡ length net.supply.given + 1 =
    length-append net.supply.given (a ∷ []) in
    let grown :
    block_size (with_cell bodies net) ≡ block_size (with_atom a net) + bodies_size bodies =
    rules-size a bodies (with_atom a net) in
    let began : length (net.made ++ (a ∷ [])) ≡ length net.made + 1 =
    length-append net.made (a ∷ []) in
    record { program = ap (λ s. s.atoms) same; drawn = omega arith; size = omega arith }

-- ---- conditions of the rules

rules-before : (a : ℕ) (bodies : List (List Literal)) (net : Block) (lits : List Literal)
    → AllBefore net a lits → AllBefore (with_rules a bodies net) a lits
rules-before a bodies net lits h =
    subst (λ new. AllBefore new a lits) (sym (with_rules-are a bodies net)) h

rules-own : (a : ℕ) (bodies : List (List Literal)) (net : Block) → members net.made a ≡ true
    → members (with_rules a bodies net).made a ≡ true
rules-own a bodies net h =
    subst (λ new. members new.made a ≡ true) (sym (with_rules-are a bodies net)) h

pub cell-own : (bodies : List (List Literal)) (net : Block)
    → members (with_cell bodies net).made (next_atom net) ≡ true
cell-own bodies net =
    let a : ℕ = next_atom net in
    let own : members (with_atom a net).made a ≡ true =
    made-with a net a ∙ or_right _ _ (eq-eqb a a refl) in
    rules-own a bodies (with_atom a net) own

pub cell-before : (bodies : List (List Literal)) (net : Block) (lits : List Literal) → IsBlock net
    → AllKnown net lits → AllBefore (with_cell bodies net) (next_atom net) lits
cell-before bodies net lits is k =
    let a : ℕ = next_atom net in
    rules-before a bodies (with_atom a net) lits
    (all_before-new net a is (next_atom-least net) lits k)

-- ---- all of these

pub all-defines : (net : Block) (lits : List Literal) → IsBlock net → AllKnown net lits
    → Defines net (with_cell (lits ∷ []) net) (Pos (next_atom net))
    (λ X M. list_all (value net X M) lits)
all-defines net lits is k = record {
  grew = cell-grew net (lits ∷ []) is (k, tt);
  known = cell-known net (lits ∷ []) is (k, tt);
  says = λ X M.
      cell-value net (lits ∷ []) is (k, tt) X M ∙ or_false (list_all (value net X M) lits);
}

-- ---- one of these

abbrev pub singles : List Literal → List (List Literal)
singles lits = map (λ l. l ∷ []) lits

singles-known : (net : Block) (lits : List Literal) → AllKnown net lits
    → AllByRecursion (AllKnown net) (singles lits)
singles-known net [] k = tt
singles-known net (l ∷ lits) k = ((k.0, tt), singles-known net lits k.1)

singles-any : (p : Literal → Bool) (lits : List Literal)
    → list_any (λ body. list_all p body) (singles lits) ≡ list_any p lits
singles-any p [] = refl
singles-any p (l ∷ lits) = ap₂ ◌||◌ (and_true (p l)) (singles-any p lits)

singles-size : (lits : List Literal) → bodies_size (singles lits) ≡ 2 * length lits
singles-size [] = omega arith
singles-size (l ∷ lits) = omega (arith, singles-size lits)

pub any-defines : (net : Block) (lits : List Literal) → IsBlock net → AllKnown net lits
    → Defines net (with_cell (singles lits) net) (Pos (next_atom net))
    (λ X M. list_any (value net X M) lits)
any-defines net lits is k =
    let ks : AllByRecursion (AllKnown net) (singles lits) = singles-known net lits k in
    record {
      grew = cell-grew net (singles lits) is ks;
      known = cell-known net (singles lits) is ks;
      says = λ X M. cell-value net (singles lits) is ks X M ∙ singles-any (value net X M) lits;
    }

pub any-adds : (net : Block) (lits : List Literal)
    → Adds 1 (1 + 2 * length lits) net (with_cell (singles lits) net)
any-adds net lits =
    cell-adds (singles lits) net (1 + 2 * length lits) (omega (arith, singles-size lits))

-- one rule after another
pub any-more : (a : ℕ) (net : Block) (lits : List Literal) (i : ℕ) (x : Literal) → i < length lits
    → x ≡ get_or lits i x
    → with_rule a (x ∷ []) (with_rules a (singles (take i lits)) net)
    ≡ with_rules a (singles (take (i + 1) lits)) net
any-more a net lits i x l e =
    sym (with_rules-push a (singles (take i lits)) (x ∷ []) net)
    ∙ ap (λ bodies. with_rules a bodies net)
    (sym (map_push (λ y. y ∷ []) (take i lits) x)
    ∙ ap singles (ap (λ y. take i lits ++ (y ∷ [])) e ∙ sym (take_more lits i x l)))

pub any-all : (a : ℕ) (net : Block) (lits : List Literal) (i : ℕ) → length lits ≤ i
    → with_rules a (singles (take i lits)) net ≡ with_rules a (singles lits) net
any-all a net lits i l = ap (λ xs. with_rules a (singles xs) net) (take_all i lits l)

-- ---- one, or all of these

pub one_or-defines : (net : Block) (one : Literal) (lits : List Literal) → IsBlock net
    → Known net one → AllKnown net lits
    → Defines net (with_cell ((one ∷ []) ∷ lits ∷ []) net) (Pos (next_atom net))
    (λ X M. value net X M one || list_all (value net X M) lits)
one_or-defines net one lits is h k =
    let bodies : List (List Literal) = (one ∷ []) ∷ lits ∷ [] in
    let ks : AllByRecursion (AllKnown net) bodies = ((h, tt), (k, tt)) in
    record {
      grew = cell-grew net bodies is ks;
      known = cell-known net bodies is ks;
      says = λ X M.
          cell-value net bodies is ks X M
          ∙ ap₂ ◌||◌ (and_true (value net X M one)) (or_false (list_all (value net X M) lits));
    }

-- ---- one after another

pub adds-more : (a b m n : ℕ) (old now new : Block) → Adds a m old now → Adds b n now new
    → Adds (a + b) (m + n) old new
adds-more a b m n old now new p q =
    record { program = q.program ∙ p.program; drawn = omega arith; size = omega arith }

pub adds-same : (a b m n : ℕ) (old new : Block) → a ≤ b → m ≤ n → Adds a m old new
    → Adds b n old new
adds-same a b m n old new e f p =
    record { program = p.program; drawn = omega arith; size = omega arith }
