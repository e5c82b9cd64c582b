-- Weights that are read one by one, each beside its literal.
use Rattle.std.proofs.Common.{rules, ◌≡◌, ◌∙◌, ℕ, ◌+◌, List, [], ◌∷◌, ◌++◌, length, map, Ok, Err, refl, sym, ap, subst, arith, append-nil, length-append}
use Rattle.std.specs.Prelude.{ℤ, pos}
use Rattle.std.specs.List.{AllByRecursion}
use Rattle.std.proofs.lemmas.List.{length-map}
use Rattle.asp_base.specs.Literal.{Literal, atom_of}
use Rattle.asp_scan.specs.Scanning.{Scanning}
use Rattle.ground_program.specs.Facts.{IsAtom, FitsBodyWeight, LiteralsFit}
use Rattle.ground_program.specs.declared.reading.ReadKind.{ReadKind}
use Rattle.asp_base.specs.Faults.{◌>>=◌}
use Rattle.statement_fields.specs.Fields.{Reading, body_weight, many}
use Rattle.statement_fields.specs.private.Onto.{onto}
use Rattle.statement_fields.proofs.SoFar.{onto-none, onto-next}
use Rattle.asp_base.proofs.Each.{each-push, each-map, each-weaker}
use Rattle.smodels_format.specs.Read.{counts, literals, weighted, items}
use Rattle.smodels_format.specs.private.Steps.{weights_of}

abbrev pub ItemFits : Literal × ℤ → Type 0
ItemFits item = IsAtom (atom_of item.0) × FitsBodyWeight item.1

-- what a loop keeps that reads a weight for each literal, where these literals are left
pub record Weighing (lits left : List Literal) (start now : Scanning) (items : List (Literal × ℤ)) : Type 0 where
  pub same : onto items (weights_of left now.left) ≡ weights_of lits start.left
  pub size : length items + length left ≡ length lits
  pub atoms : LiteralsFit IsAtom left
  pub fit : AllByRecursion ItemFits items
  pub rest : now ≡ record start { left = now.left }

abbrev then_weights : Literal → List Literal → ℤ × List ℕ → Reading (List (Literal × ℤ))
then_weights l lits w = weights_of lits w.1 >>= (λ rest. Ok ((l, w.0) ∷ rest.0, rest.1))

pub Weighing-start : (lits : List Literal) (start : Scanning) → LiteralsFit IsAtom lits → Weighing lits lits start start []
Weighing-start lits start fit = record {
  same = onto-none (weights_of lits start.left);
  size = omega arith;
  atoms = fit;
  fit = tt;
  rest = refl;
}

pub Weighing-next : {lits left now_left : List Literal} {l : Literal} {start now after : Scanning} {items longer : List (Literal × ℤ)} {w : ℤ}
    → Weighing lits now_left start now items → now_left ≡ l ∷ left → body_weight now.left ≡ Ok (w, after.left) → after ≡ record now { left = after.left } → FitsBodyWeight w
    → longer ≡ items ++ ((l, w) ∷ []) → Weighing lits left start after longer
Weighing-next {lits = lits} {left = left} {l = l} {start = start} {now = now} {after = after} {items = items} {w = w} h at is frame fits grown =
    let here : Weighing lits (l ∷ left) start now items = subst (λ ls. Weighing lits ls start now items) at h in
    let next : Weighing lits left start after (items ++ ((l, w) ∷ [])) = record {
      same = sym (onto-next items (l, w) (weights_of left after.left))
          ∙ sym (ap (λ r. onto items (r >>= then_weights l left)) is)
          ∙ here.same;
      size = omega (arith, length-append items ((l, w) ∷ []), here.size);
      atoms = here.atoms.1;
      fit = each-push ItemFits items (l, w) h.fit (here.atoms.0, fits);
      rest = frame ∙ ap (λ (s : Scanning). record s { left = after.left }) h.rest;
    } in
    subst (λ xs. Weighing lits left start after xs) (sym grown) next

pub Weighing-fails : {lits left now_left : List Literal} {l : Literal} {start now : Scanning} {items : List (Literal × ℤ)} (kind : ReadKind)
    → Weighing lits now_left start now items → now_left ≡ l ∷ left → body_weight now.left ≡ Err kind → weights_of lits start.left ≡ Err kind
Weighing-fails {left = left} {l = l} {now = now} {items = items} kind h at is =
    sym h.same
    ∙ ap (λ ls. onto items (weights_of ls now.left)) at
    ∙ ap (λ r. onto items (r >>= then_weights l left)) is

pub Weighing-done : {lits left : List Literal} {start now : Scanning} {items : List (Literal × ℤ)}
    → Weighing lits left start now items → left ≡ [] → weights_of lits start.left ≡ Ok (items, now.left)
Weighing-done {now = now} {items = items} h none =
    sym h.same
    ∙ ap (λ ls. onto items (weights_of ls now.left)) none
    ∙ ap (λ xs. Ok (xs, now.left)) (append-nil items)

-- ---- the weights by themselves

abbrev all_weighted : List Literal → Reading (List ℤ) → Reading (List (Literal × ℤ))
all_weighted lits read = read >>= (λ weights. Ok (weighted lits weights.0, weights.1))

more-weighted : (l : Literal) (lits : List Literal) (w : ℤ) (read : Reading (List ℤ))
    → (all_weighted lits read >>= (λ rest. Ok ((l, w) ∷ rest.0, rest.1))) ≡ all_weighted (l ∷ lits) (read >>= (λ rest. Ok (w ∷ rest.0, rest.1)))
more-weighted l lits w (Ok read) = refl
more-weighted l lits w (Err kind) = refl

pub weights_of-weighted : (lits : List Literal) (line : List ℕ) → weights_of lits line ≡ all_weighted lits (many body_weight (length lits) line)
weights_of-weighted [] line = refl
weights_of-weighted (l ∷ lits) line = go (body_weight line) (λ left. weights_of-weighted lits left)
  where
    go : (first : Reading ℤ) → ((left : List ℕ) → weights_of lits left ≡ all_weighted lits (many body_weight (length lits) left))
        → (first >>= then_weights l lits)
        ≡ all_weighted (l ∷ lits) (first >>= (λ w. many body_weight (length lits) w.1 >>= (λ rest. Ok (w.0 ∷ rest.0, rest.1))))
    go (Ok w) more = ap (λ r. r >>= (λ rest. Ok ((l, w.0) ∷ rest.0, rest.1))) (more w.1) ∙ more-weighted l lits w.0 (many body_weight (length lits) w.1)
    go (Err kind) more = refl

abbrev then_items : (ℕ × ℕ) × List ℕ → Reading (List (Literal × ℤ))
then_items n = literals n.0 n.1 >>= (λ lits. all_weighted lits.0 (many body_weight (n.0.0 + n.0.1) lits.1))

-- behind the counts and the literals
pub items-by : (line left rest : List ℕ) (n : ℕ × ℕ) (lits : List Literal) → counts line ≡ Ok (n, left) → literals n left ≡ Ok (lits, rest) → length lits ≡ n.0 + n.1
    → items line ≡ weights_of lits rest
items-by line left rest n lits counted read size =
    ap (λ r. r >>= then_items) counted
    ∙ ap (λ (r : Reading (List Literal)). r >>= (λ lits. all_weighted lits.0 (many body_weight (n.0 + n.1) lits.1))) read
    ∙ ap (λ m. all_weighted lits (many body_weight m rest)) (sym size)
    ∙ sym (weights_of-weighted lits rest)

-- ---- each with weight 1

abbrev one_each : List Literal → List (Literal × ℤ)
one_each lits = map (λ l. (l, pos 1)) lits

one-fits : (l : Literal) → IsAtom (atom_of l) → ItemFits (l, pos 1)
one-fits l h = (h, (search rules, search rules))

module _ (lits slice : List Literal) (items : List (Literal × ℤ)) (same : slice ≡ lits) (are : items ≡ one_each slice) where
  pub counting-fits : LiteralsFit IsAtom lits → AllByRecursion ItemFits items
  counting-fits fit = subst (λ xs. AllByRecursion ItemFits xs) (sym (are ∙ ap one_each same)) (each-map ItemFits (λ l. (l, pos 1)) lits (each-weaker (λ l. IsAtom (atom_of l)) (λ l. ItemFits (l, pos 1)) one-fits lits fit))

  pub counting-long : length items ≡ length lits
  counting-long = ap length are ∙ length-map slice (λ l. (l, pos 1)) ∙ ap length same
