-- The entries that were read so far, in front of those that are still to be read.
use Rattle.std.proofs.Common.{◌≡◌, ℕ, suc, ◌+◌, ◌-◌, ◌<◌, List, [], ◌∷◌, ◌++◌, length, Result, Ok, Err, IfErr, IsErrAnd, refl, sym, ap, ◌∙◌, subst, arith, append_assoc, length-append}
use Rattle.std.specs.List.{AllByRecursion}
use Rattle.asp_base.specs.Faults.{◌>>=◌}
use Rattle.asp_base.proofs.Each.{each-push}
use Rattle.asp_scan.specs.Scanning.{Scanning}
use Rattle.ground_program.specs.declared.reading.ReadKind.{ReadKind}
use Rattle.asp_base.specs.declared.faults.LineFault.{LineFault}
use Rattle.asp_base.specs.declared.faults.LineFault.TheVariants as faults
use Rattle.statement_fields.specs.Fields.{Reading, many, Faults}
use Rattle.statement_fields.specs.private.Onto.{onto}

-- what a loop keeps that reads n entries and puts them behind others, where this is read of the whole
pub record Pushing {A : Type 0} (field : List ℕ → Reading A) (Fits : A → Type 0) (whole : Reading (List A)) (n i : ℕ) (start now : Scanning) (before front : List A) : Type 0 where
  pub same : onto front (many field (n - i) now.left) ≡ whole
  pub size : length front ≡ length before + i
  pub fit : AllByRecursion Fits front
  pub rest : now ≡ record start { left = now.left }

-- where nothing stands before
abbrev pub SoFar : {A : Type 0} → (List ℕ → Reading A) → (A → Type 0) → ℕ → ℕ → Scanning → Scanning → List A → Type 0
SoFar field Fits n i start now front = Pushing field Fits (many field n start.left) n i start now [] front

-- where these stand before
abbrev pub PushedSoFar : {A : Type 0} → (List ℕ → Reading A) → (A → Type 0) → ℕ → ℕ → Scanning → Scanning → List A → List A → Type 0
PushedSoFar field Fits n i start now before front = Pushing field Fits (onto before (many field n start.left)) n i start now before front

abbrev moved : List ℕ → Scanning → Scanning
moved left s = record s { left = left }

one_more : (n i : ℕ) → i < n → n - i ≡ suc (n - (i + 1))
one_more n i more = omega arith

pub onto-none : {A : Type 0} (read : Reading (List A)) → onto [] read ≡ read
onto-none (Ok read) = refl
onto-none (Err kind) = refl

-- the entry that was read goes to the others
pub onto-next : {A : Type 0} (front : List A) (x : A) (read : Reading (List A))
    → onto front (read >>= (λ rest. Ok (x ∷ rest.0, rest.1))) ≡ onto (front ++ (x ∷ [])) read
onto-next front x (Ok read) = ap (λ xs. Ok (xs, read.1)) (sym (append_assoc front (x ∷ []) read.0))
onto-next front x (Err kind) = refl

-- a fault stays one
pub onto-err : {A : Type 0} (front : List A) (read : Reading (List A)) (kind : ReadKind) → onto front read ≡ Err kind → read ≡ Err kind
onto-err front (Ok read) kind e = cc
onto-err front (Err other) kind e = cc

first_of : {A : Type 0} (field : List ℕ → Reading A) (m : ℕ) (line : List ℕ) (front : List A) (read : Reading A) → field line ≡ read
    → onto front (many field (suc m) line) ≡ onto front (read >>= (λ first. many field m first.1 >>= (λ rest. Ok (first.0 ∷ rest.0, rest.1))))
first_of field m line front read is = ap (λ r. onto front (r >>= (λ first. many field m first.1 >>= (λ rest. Ok (first.0 ∷ rest.0, rest.1))))) is

pub Pushing-next : {A : Type 0} {field : List ℕ → Reading A} {Fits : A → Type 0} {whole : Reading (List A)} {n i : ℕ} {start now after : Scanning} {before front longer : List A} {x : A}
    → Pushing field Fits whole n i start now before front → i < n → field now.left ≡ Ok (x, after.left) → after ≡ record now { left = after.left } → Fits x
    → longer ≡ front ++ (x ∷ []) → Pushing field Fits whole n (i + 1) start after before longer
Pushing-next {field = field} {Fits = Fits} {whole = whole} {n = n} {i = i} {start = start} {now = now} {after = after} {before = before} {front = front} {x = x} h more is frame fits grown =
    let next : Pushing field Fits whole n (i + 1) start after before (front ++ (x ∷ [])) = record {
      same = sym (onto-next front x (many field (n - (i + 1)) after.left))
          ∙ sym (first_of field (n - (i + 1)) now.left front (Ok (x, after.left)) is)
          ∙ ap (λ m. onto front (many field m now.left)) (sym (one_more n i more))
          ∙ h.same;
      size = omega (arith, length-append front (x ∷ []), h.size);
      fit = each-push Fits front x h.fit fits;
      rest = frame ∙ ap (moved after.left) h.rest;
    } in
    subst (λ xs. Pushing field Fits whole n (i + 1) start after before xs) (sym grown) next

pub Pushing-fails : {A : Type 0} {field : List ℕ → Reading A} {Fits : A → Type 0} {whole : Reading (List A)} {n i : ℕ} {start now : Scanning} {before front : List A} (kind : ReadKind)
    → Pushing field Fits whole n i start now before front → i < n → field now.left ≡ Err kind → whole ≡ Err kind
Pushing-fails {field = field} {n = n} {i = i} {now = now} {front = front} kind h more is =
    sym h.same
    ∙ ap (λ m. onto front (many field m now.left)) (one_more n i more)
    ∙ first_of field (n - (i + 1)) now.left front (Err kind) is

-- as the fault that the loop gives back
pub Pushing-faults : {A B : Type 0} {field : List ℕ → Reading A} {Fits : A → Type 0} {whole : Reading (List A)} {n i : ℕ} {start now : Scanning} {before front : List A} {kind : ReadKind}
    (r : Result B (LineFault ReadKind)) → Pushing field Fits whole n i start now before front → i < n → field now.left ≡ Err kind → IsErrAnd r (λ fault. fault ≡ faults.Kind kind)
    → IfErr r (λ fault. Faults whole fault)
Pushing-faults (Ok x) h more is gives = tt
Pushing-faults {whole = whole} {kind = kind} (Err fault) h more is gives = subst (λ f. Faults whole f) (sym gives) (Pushing-fails kind h more is)
