-- The edges of a text along a walk, line by line.
use Rattle.std.proofs.Common.{◌≡◌, sym, ◌∙◌, ap, subst, ℕ, suc, ◌+◌, ◌-◌, ◌<◌, List, [], ◌∷◌, ◌++◌, Ok, Err}
use Rattle.std.specs.List.{AllByRecursion}
use Rattle.asp_base.proofs.Each.{each-push}
use Rattle.asp_base.specs.Faults.{fault, at_line, ◌>>=◌, Refuses}
use Rattle.asp_base.specs.declared.faults.Refusal.{Refusal}
use Rattle.asp_scan.specs.Lines.{Line}
use Rattle.asp_scan.specs.Scanning.{Scanning}
use Rattle.asp_scan.specs.Tokens.{tokens}
use Rattle.clause_store.specs.Facts.{IsOver}
use Rattle.clause_store.specs.declared.formula.LitEdge.{LitEdge}
use Rattle.dimacs_format.specs.Read.{content_of, edge, edges}
use Rattle.dimacs_format.specs.private.Walks.{onto}
use Rattle.dimacs_format.specs.declared.kind.FormulaKind.{FormulaKind}
use Rattle.dimacs_format.specs.declared.kind.FormulaKind.TheVariants.{WrongCount}
use Rattle.dimacs_format.proofs.ClauseSteps.{one_more, onto-next, refused-onto}

pub no_edge : (last vars n : ℕ) (lines : List Line) → lines ≡ [] → edges last vars (suc n) lines ≡ fault last WrongCount
no_edge last vars n lines e = ap (edges last vars (suc n)) e

module _ (last vars : ℕ) (lines : List Line) (line : Line) (rest : List Line) (left : List ℕ) (more : lines ≡ line ∷ rest) (front : left ≡ line.bytes) (n : ℕ) where
  pub edge_step : (e : LitEdge) → edge vars (tokens left) ≡ Ok e → edges last vars (suc n) lines ≡ onto (e ∷ []) (edges last vars n rest)
  edge_step e is =
      ap (edges last vars (suc n)) more
      ∙ ap (λ r. at_line line.number r >>= λ first. edges last vars n rest >>= λ more. Ok (first ∷ more.0, more.1)) (ap (λ bytes. edge vars (tokens bytes)) (sym front) ∙ is)

  pub bad_edge : (kind : FormulaKind) → edge vars (tokens left) ≡ Err kind → edges last vars (suc n) lines ≡ fault line.number kind
  bad_edge kind is =
      ap (edges last vars (suc n)) more
      ∙ ap (λ r. at_line line.number r >>= λ first. edges last vars n rest >>= λ more. Ok (first ∷ more.0, more.1)) (ap (λ bytes. edge vars (tokens bytes)) (sym front) ∙ is)

-- what the loop over the edges keeps
pub record EdgesSoFar (vars n i : ℕ) (start now : Scanning) (found : List LitEdge) : Type 0 where
  pub same : onto found (edges now.last vars (n - i) (content_of now.ahead)) ≡ edges start.last vars n (content_of start.ahead)
  pub over : AllByRecursion (λ e. IsOver vars e.lit) found
  pub last : now.last ≡ start.last

pub EdgesSoFar-next : {vars n i : ℕ} {start now after : Scanning} {found longer : List LitEdge} {e : LitEdge} → EdgesSoFar vars n i start now found → i < n
    → ((k : ℕ) → edges now.last vars (suc k) (content_of now.ahead) ≡ onto (e ∷ []) (edges now.last vars k (content_of after.ahead))) → IsOver vars e.lit
    → after.last ≡ now.last → longer ≡ found ++ (e ∷ []) → EdgesSoFar vars n (i + 1) start after longer
EdgesSoFar-next {vars = vars} {n = n} {i = i} {start = start} {now = now} {after = after} {found = found} {e = e} h more is over last grown =
    let next : EdgesSoFar vars n (i + 1) start after (found ++ (e ∷ [])) = record {
      same = sym (onto-next found e (edges after.last vars (n - (i + 1)) (content_of after.ahead)))
          ∙ ap (λ end. onto found (onto (e ∷ []) (edges end vars (n - (i + 1)) (content_of after.ahead)))) last
          ∙ ap (onto found) (sym (is (n - (i + 1))))
          ∙ ap (λ m. onto found (edges now.last vars m (content_of now.ahead))) (sym (one_more n i more))
          ∙ h.same;
      over = each-push (λ (x : LitEdge). IsOver vars x.lit) found e h.over over;
      last = last ∙ h.last;
    } in
    subst (λ xs. EdgesSoFar vars n (i + 1) start after xs) (sym grown) next

pub EdgesSoFar-fails : {vars n i : ℕ} {start now : Scanning} {found : List LitEdge} (refusal : Refusal FormulaKind) → EdgesSoFar vars n i start now found → i < n
    → ((k : ℕ) → Refuses (edges now.last vars (suc k) (content_of now.ahead)) refusal) → Refuses (edges start.last vars n (content_of start.ahead)) refusal
EdgesSoFar-fails {vars = vars} {n = n} {i = i} {start = start} {now = now} {found = found} refusal h more is =
    refused-onto found (edges now.last vars (suc (n - (i + 1))) (content_of now.ahead)) (edges start.last vars n (content_of start.ahead)) refusal
    (ap (λ m. onto found (edges now.last vars m (content_of now.ahead))) (sym (one_more n i more)) ∙ h.same) (is (n - (i + 1)))
