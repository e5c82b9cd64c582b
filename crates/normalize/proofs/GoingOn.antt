-- Steps of normalization: what stays from stage to stage, the atoms of a choice one after another,
-- and what is spent.
use Rattle.std.proofs.Common.{◌≡◌, refl, sym, ◌∙◌, ap, subst, ℕ, zero, suc, ◌+◌, ◌*◌, ◌<◌, ◌≤◌, ◌^◌, ◌==◌, ◌⊎◌, inl, Bool, true, false, List, [], ◌∷◌, ◌++◌, length, take, get_or, arith, ⊎_elim}
use Rattle.std.specs.List.{AllByRecursion}
use Rattle.std.proofs.lemmas.Bool.{or_cases, or_right, true≢false, eqb-true}
use Rattle.std.proofs.lemmas.List.{take_more}
use Rattle.asp_base.specs.Literal.{Literal, atom_of}
use Rattle.asp_base.specs.Sets.{Set, members}
use Rattle.ground_program.specs.Facts.{HeadFits, BodyFits, RuleFits}
use Rattle.ground_program.specs.Stable.{step}
use Rattle.ground_program.specs.declared.program.Head.{Head}
use Rattle.ground_program.specs.declared.program.Head.TheVariants.{Nothing, One, Choice}
use Rattle.ground_program.specs.declared.program.Body.{Body}
use Rattle.ground_program.specs.declared.program.Body.TheVariants.{All, Sum}
use Rattle.ground_program.specs.declared.program.Rule.{Rule}
use Rattle.asp_base.proofs.Each.{each-weaker}
use Rattle.asp_base.proofs.Each.{each-get}
use Rattle.ground_program.specs.Dependencies.{positives_of_literals}
use Rattle.rising_numbers.proofs.RisingLaws.{members-at}
use Rattle.normalize.specs.private.Added.{Adds}
use Rattle.normalize.proofs.AddedLaws.{Adds-nothing, Adds-then}
use Rattle.normalize.specs.private.Replacement.{HeadIn, headless_holds}
use Rattle.ground_program.specs.Room.{head_term, body_part, term}
use Rattle.normalize.specs.private.Stage.{Stage, IsStage, IsSum, sum_room, is_idle, atoms_of, LitsKnown, Turns, choice_of, Spends, stage_size, HasRoomFor}
use Rattle.normalize.proofs.ChoicePieces.{choice-more}
use Rattle.normalize.proofs.StageLaws.{atoms-known, Turns-then, Turns-as, Turns-nothing}

-- ---- what stays

module _ (old : List Rule) (s t : Stage) (p : Turns old s t) where
  pub head-stays : (head : Head) → HeadIn (atoms_of s) head → HeadIn (atoms_of t) head
  head-stays head h = subst (λ as_. HeadIn (members as_) head) (sym p.atoms) h

  pub lits-stay : (lits : List Literal) → LitsKnown s lits → LitsKnown t lits
  lits-stay lits h =
      each-weaker _ _ (λ l k. p.taken (atom_of l) ∙ or_right (p.fresh (atom_of l)) _ k) lits h

pub head-in : (fits : ℕ → Bool) (head : Head) → HeadFits (λ a. fits a ≡ true) head
    → HeadIn fits head
head-in fits Nothing h = tt
head-in fits (One a) h = h
head-in fits (Choice as_) h = h.1

-- ---- what is spent

times-more : (i k : ℕ) → i * k + k ≡ (i + 1) * k
times-more i k = omega arith

spends-times : (i k : ℕ) (s t u : Stage) → Spends (i * k) s t → Spends k t u
    → Spends ((i + 1) * k) s u
spends-times i k s t u p q =
    go (stage_size s) (stage_size t) (stage_size u) (i * k) ((i + 1) * k) (times-more i k) p q
  where
    go : (a b c m n : ℕ) → m + k ≡ n → b ≤ a + m → c ≤ b + k → c ≤ a + n
    go a b c m n e p q = omega arith

-- ---- a choice, atom by atom

-- so many atoms were chosen
pub record Chosen (atoms : List ℕ) (lits : List Literal) (i : ℕ) (s t : Stage) : Type 0 where
  pub turns : Turns (choice_of (take i atoms) lits ∷ []) s t
  pub spends : Spends (i * (5 + length lits)) s t
  pub adds : Adds atoms (positives_of_literals lits) s t

pub chosen-start : (s : Stage) → IsStage s → (atoms : List ℕ) (lits : List Literal)
    → Chosen atoms lits 0 s s
chosen-start s is atoms lits = record {
  turns = Turns-nothing s is.pairs (choice_of [] lits ∷ []) (λ X N a. refl) (λ X N. refl);
  spends = omega arith;
  adds = Adds-nothing atoms (positives_of_literals lits) s;
}

one_of : (a b : ℕ) → members (a ∷ []) b ≡ true → (a == b) ≡ true
one_of a b k = ⊎_elim (λ q. q) (λ q. absurd (true≢false (sym q))) (or_cases (a == b) false k)

pub chosen-more : (s t u : Stage) (atoms : List ℕ) (lits : List Literal) (i : ℕ)
    → i < length atoms → AllByRecursion (λ b. atoms_of s b ≡ true) atoms → LitsKnown s lits
    → Chosen atoms lits i s t → Turns (choice_of (get_or atoms i 0 ∷ []) lits ∷ []) t u
    → Spends (5 + length lits) t u
    → Adds (get_or atoms i 0 ∷ []) (positives_of_literals lits) t u
    → Chosen atoms lits (i + 1) s u
chosen-more s t u atoms lits i l at over h q m p =
    let a : ℕ = get_or atoms i 0 in
    let reads : List ℕ = positives_of_literals lits in record {
      turns = subst (λ as_. Turns (choice_of as_ lits ∷ []) s u) (sym (take_more atoms i 0 l))
          (Turns-as s u (choice_of (take i atoms) lits ∷ choice_of (a ∷ []) lits ∷ [])
          (choice_of (take i atoms ++ (a ∷ [])) lits ∷ [])
          (λ X N b. choice-more (take i atoms) a lits X N b) (λ X N. refl)
          (Turns-then s t u (choice_of (take i atoms) lits ∷ []) (choice_of (a ∷ []) lits ∷ []) (
            record {
              head = (each-get (λ b. atoms_of s b ≡ true) atoms i 0 l at, tt);
              body = over;
              weights = tt;
            },
            tt,
          ) h.turns q));
      spends = spends-times i (5 + length lits) s t u h.spends m;
      adds = Adds-then atoms reads (a ∷ []) reads atoms reads s t u h.turns.atoms h.adds p
          (λ b k. k)
          (λ b k. subst (λ x. members atoms x ≡ true) (eqb-true a b (one_of a b k))
          (members-at atoms i l))
          (λ b k. k) (λ b k. inl k);
    }

-- ---- what is spent one after another

pub spends-then : (m n k : ℕ) (s t u : Stage) → m + n ≤ k → Spends m s t → Spends n t u
    → Spends k s u
spends-then m n k s t u l p q = go (stage_size s) (stage_size t) (stage_size u) p q
  where
    go : (a b c : ℕ) → b ≤ a + m → c ≤ b + n → c ≤ a + k
    go a b c p q = omega arith

-- few atoms or few literals
few-enough : (m n : ℕ) → (m < 2) ⊎ (n < 2) → m * (5 + n) ≤ n + 2 + 6 * m
few-enough zero n h = omega arith
few-enough (suc zero) n h = omega arith
few-enough (suc (suc m)) zero h = omega arith
few-enough (suc (suc m)) (suc zero) h = omega arith
few-enough (suc (suc m)) (suc (suc n)) h =
    ⊎_elim (λ k. absurd (omega arith)) (λ k. absurd (omega arith)) h

pub choices-few : (m n : ℕ) → (m < 2) ⊎ (n < 2) → m * (5 + n) ≤ n + 2 + 6 * m
choices-few m n h = few-enough m n h

-- a sum, and a rule over at most one literal behind it
head-over : (head : Head) (m n : ℕ) → n ≤ 1 → m + head_term head n ≤ head_term head (1 + m)
head-over Nothing m n l = omega arith
head-over (One a) m n l = omega arith
head-over (Choice as_) m n l = omega arith

pub spends-weaker : (m n : ℕ) (s t : Stage) → m ≤ n → Spends m s t → Spends n s t
spends-weaker m n s t l p = go (stage_size s) (stage_size t) p
  where
    go : (a b : ℕ) → b ≤ a + m → b ≤ a + n
    go a b p = omega arith

-- ---- the parts of a rule

pub rule-lits : (s : Stage) (rule : Rule) (lits : List Literal)
    → RuleFits (λ a. atoms_of s a ≡ true) rule → rule.body ≡ All lits → LitsKnown s lits
rule-lits s rule lits f e =
    each-weaker _ _ (λ l k. atoms-known s (atom_of l) k) lits
    ((subst (BodyFits (λ a. atoms_of s a ≡ true)) e f.1).1)

-- ---- the sum itself

head-above : (head : Head) (m : ℕ) → m ≤ head_term head (1 + m)
head-above Nothing m = omega arith
head-above (One a) m = omega arith
head-above (Choice as_) m = omega arith

sum-part : (body : Body) → IsSum body → body_part body ≡ 1 + sum_room body
sum-part (All lits) is = absurd is
sum-part (Sum bound items) is = refl

term-is : (rule : Rule) → IsSum rule.body → term rule ≡ head_term rule.head (1 + sum_room rule.body)
term-is rule is = ap (head_term rule.head) (sum-part rule.body is)

module _ (rule : Rule) (is : IsSum rule.body) where
  pub sum-room : (s : Stage) → HasRoomFor (term rule) s → HasRoomFor (sum_room rule.body) s
  sum-room s r =
      go (length s.supply.atoms) (stage_size s) (sum_room rule.body) (term rule)
      (subst (λ n. sum_room rule.body ≤ n) (sym (term-is rule is))
      (head-above rule.head (sum_room rule.body))) r
    where
      go : (a b m k : ℕ) → m ≤ k → a + b + k ≤ 2 ^ 30 → a + b + m ≤ 2 ^ 30
      go a b m k l r = omega arith

  over-fits : (n : ℕ) → n ≤ 1 → sum_room rule.body + head_term rule.head n ≤ term rule
  over-fits n l =
      subst (λ k. sum_room rule.body + head_term rule.head n ≤ k) (sym (term-is rule is))
      (head-over rule.head (sum_room rule.body) n l)

  pub over-room : (n : ℕ) (s t : Stage) → n ≤ 1 → t.supply.atoms ≡ s.supply.atoms
      → Spends (sum_room rule.body) s t → HasRoomFor (term rule) s
      → HasRoomFor (head_term rule.head n) t
  over-room n s t l e p r =
      go (length t.supply.atoms) (length s.supply.atoms) (stage_size s) (stage_size t)
      (sum_room rule.body) (head_term rule.head n) (term rule) (ap length e) p r (over-fits n l)
    where
      go : (at as_ b c m h k : ℕ) → at ≡ as_ → c ≤ b + m → as_ + b + k ≤ 2 ^ 30 → m + h ≤ k
          → at + c + h ≤ 2 ^ 30
      go at as_ b c m h k e p r l = omega arith

  pub over-spends : (n : ℕ) (s t u : Stage) → n ≤ 1 → Spends (sum_room rule.body) s t
      → Spends (head_term rule.head n) t u → Spends (term rule) s u
  over-spends n s t u l p q =
      spends-then (sum_room rule.body) (head_term rule.head n) (term rule) s t u (over-fits n l) p q

-- ---- a choice without atoms

idle-steps : (head : Head) (body : Body) → is_idle head ≡ true
    → ((X N : Set) (a : ℕ) → step (record { head = head; body = body } ∷ []) N X a ≡ false)
    × ((X N : Set) → headless_holds (record { head = head; body = body } ∷ []) X N ≡ false)
idle-steps Nothing body e = absurd (true≢false (sym e))
idle-steps (One a) body e = absurd (true≢false (sym e))
idle-steps (Choice []) body e = (λ X N a. refl, λ X N. refl)
idle-steps (Choice (a ∷ as_)) body e = absurd (true≢false (sym e))

pub idle-turns : (s : Stage) → IsStage s → (rule : Rule) → is_idle rule.head ≡ true
    → Turns (rule ∷ []) s s
idle-turns s is rule i =
    Turns-nothing s is.pairs (rule ∷ []) ((idle-steps rule.head rule.body i).0)
    ((idle-steps rule.head rule.body i).1)
