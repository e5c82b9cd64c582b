-- Texts that are written: what the loop over one keeps, and one after another.
use Rattle.std.proofs.Common.{◌≡◌, ◌≢◌, ◌⊎◌, inr, sym, ◌∙◌, ap, subst, ℕ, List, [], ◌∷◌, ◌++◌, length, take, drop, suc, get_or, take-append-drop, ◌+◌, ◌<◌, Option, Some, IfSome, Result, Ok, Err, OnErr, arith}
use Rattle.std.proofs.lemmas.Grind.{common_steps}
use Rattle.std.proofs.lemmas.Option.{IfSome_then}
use Rattle.std.proofs.Math.Seq.{take-suc, drop-cons}
use Rattle.std.specs.Borrow.{Bor}
use Rattle.std.specs.List.{AllByRecursion}
use Rattle.asp_base.specs.Desk.{DeskState, Counts, Name, FailsToWrite, FailsToEndWriting}
use Rattle.asp_base.proofs.Each.{each-weaker, each-front, each-back}
use Rattle.job_shell.specs.Ran.{IsMade, IsFrontMade, AreMade, AreMadeBefore, OnlyUnder}
use Rattle.job_shell.specs.Reads.{AllDiffer, AtPlace, names_of}
use Rattle.job_shell.specs.private.Written.{Wrote, FailsToWriteText, WroteEach, FailsToWriteAt}
use Rattle.job_shell.proofs.PlaceLaws.{at-place, differ-before, length-take_names, split-names, take-names}

-- so much of the text is written, and so much is left
pub record HasWritten (old now : DeskState) (name text rest : List ℕ) : Type 0 where
  pub made : IfSome (old.made name) (λ _. (done : List ℕ) × (now.made name ≡ Some (Some done)) × (done ++ rest ≡ text))
  pub others : (other : List ℕ) → other ≢ name → now.made other ≡ old.made other
  pub state : now ≡ record old { made = now.made; writing = Some name }

-- the front of a text that is written
front : (done rest text : List ℕ) → done ++ rest ≡ text → done ≡ take (length done) text
front done rest text e = grind (arith, common_steps)

-- what was made is a front of the text
made_front : (old now new : DeskState) (name text rest : List ℕ) → HasWritten old now name text rest → new.made ≡ now.made
    → IfSome (old.made name) (λ _. (new.made name ≡ old.made name) ⊎ ((n : ℕ) × (new.made name ≡ Some (Some (take n text)))))
made_front old now new name text rest h same = IfSome_then (old.made name) h.made
    (λ _ p. inr (length p.0, ap (λ m. m name) same ∙ p.1 ∙ ap (λ bytes. Some (Some bytes)) (front p.0 rest text p.2)))

-- a write fails after a part of the text
pub FailsToWriteText-from_write : (old now new : DeskState) (name text rest : List ℕ) → HasWritten old now name text rest → FailsToWrite now new rest
    → FailsToWriteText old new name text
FailsToWriteText-from_write old now new name text rest h f = record {
  counts = grind (arith, common_steps);
  made = made_front old now new name text rest h (grind (arith, common_steps));
  others = λ other differ. grind (arith, common_steps, h.others other differ);
  rest = grind (arith, common_steps);
}

-- the end of a writing fails
pub FailsToWriteText-from_end : (old now new : DeskState) (name text rest : List ℕ) → HasWritten old now name text rest → FailsToEndWriting now new
    → FailsToWriteText old new name text
FailsToWriteText-from_end old now new name text rest h f = record {
  counts = grind (arith, common_steps);
  made = made_front old now new name text rest h (grind (arith, common_steps));
  others = λ other differ. grind (arith, common_steps, h.others other differ);
  rest = grind (arith, common_steps);
}

-- a fact that holds anyway holds at an error
pub on_err_always : {T E P : Type 0} (r : Result T E) → P → OnErr r P
on_err_always (Ok x) p = tt
on_err_always (Err e) p = p

-- ---- texts, one after another

made-next : (old mid new : DeskState) (before texts : List (List ℕ)) (name text : List ℕ) → AreMade old mid before texts → AllByRecursion (λ other. new.made other ≡ mid.made other) before
    → IsMade old new name text → AreMade old new (before ++ (name ∷ [])) (texts ++ (text ∷ []))
made-next old mid new [] [] name text h same k = (k, tt)
made-next old mid new [] (_ ∷ _) name text h same k = absurd h
made-next old mid new (_ ∷ _) [] name text h same k = absurd h
made-next old mid new (first ∷ before) (t ∷ texts) name text h same k =
    (IfSome_then (old.made first) h.0 (λ _ e. same.0 ∙ e), made-next old mid new before texts name text h.1 same.1 k)

cut-next : (old mid new : DeskState) (before texts : List (List ℕ)) (name text : List ℕ) (more : List (List ℕ)) → AreMade old mid before texts → AllByRecursion (λ other. new.made other ≡ mid.made other) before
    → IsFrontMade old new name text → AreMadeBefore old new before name (texts ++ (text ∷ more))
cut-next old mid new [] [] name text more h same k = k
cut-next old mid new [] (_ ∷ _) name text more h same k = absurd h
cut-next old mid new (_ ∷ _) [] name text more h same k = absurd h
cut-next old mid new (first ∷ before) (t ∷ texts) name text more h same k =
    (IfSome_then (old.made first) h.0 (λ _ e. same.0 ∙ e), cut-next old mid new before texts name text more h.1 same.1 k)

module _ (old mid new : DeskState) (before texts : List (List ℕ)) (name text : List ℕ) (w : WroteEach old mid before texts) (differ : AllByRecursion (λ other. other ≢ name) before) where
  -- what stood under the name before
  stood : mid.made name ≡ old.made name
  stood = w.others name (each-weaker (λ other. other ≢ name) (λ other. name ≢ other) (λ other d e. d (sym e)) before differ)

  others-then : ((other : List ℕ) → other ≢ name → new.made other ≡ mid.made other) → OnlyUnder (before ++ (name ∷ [])) old new
  others-then h other apart =
      h other (each-back (λ n. other ≢ n) before (name ∷ []) apart).0 ∙ w.others other (each-front (λ n. other ≢ n) before (name ∷ []) apart)

  same-before : ((other : List ℕ) → other ≢ name → new.made other ≡ mid.made other) → AllByRecursion (λ other. new.made other ≡ mid.made other) before
  same-before h = each-weaker (λ other. other ≢ name) (λ other. new.made other ≡ mid.made other) h before differ

  pub wrote-next : Wrote mid new name text → WroteEach old new (before ++ (name ∷ [])) (texts ++ (text ∷ []))
  wrote-next h =
      let Made : Option (Option (List ℕ)) → Type 0 = λ m. IfSome m (λ _. new.made name ≡ Some (Some text)) in
      record {
        made = made-next old mid new before texts name text w.made (same-before h.others) (subst Made stood h.made);
        others = others-then h.others;
        rest = h.rest ∙ ap (λ (d : DeskState). record d { made = new.made }) w.rest;
      }

  pub fails-next : (more : List (List ℕ)) → FailsToWriteText mid new name text → FailsToWriteAt old new (texts ++ (text ∷ more)) before name
  fails-next more h =
      let Front : Option (Option (List ℕ)) → Type 0 = λ m. IfSome m (λ _. (new.made name ≡ m) ⊎ ((n : ℕ) × (new.made name ≡ Some (Some (take n text))))) in
      record {
        counts = subst (λ c. Counts c new.write_faults) (ap (λ (d : DeskState). d.write_faults) w.rest) h.counts;
        made = cut-next old mid new before texts name text more w.made (same-before h.others) (subst Front stood h.made);
        others = others-then h.others;
        rest = h.rest ∙ ap (λ (d : DeskState). record d { made = new.made; writing = new.writing; write_faults = new.write_faults; write_failed = Name name }) w.rest;
      }

-- ---- the name and the text at an index

module _ (old mid new : DeskState) (names : List (Bor (List ℕ))) (texts : List (List ℕ)) (i : ℕ) (d : Bor (List ℕ)) (text : List ℕ) (below : i < length names) (there : i < length texts)
    (is : text ≡ get_or texts i text) (differ : AllDiffer (names_of names)) (w : WroteEach old mid (take i (names_of names)) (take i texts)) where
  apart : AllByRecursion (λ other. other ≢ (get_or names i d).now) (take i (names_of names))
  apart = differ-before (take i (names_of names)) (get_or names i d).now (drop (suc i) (names_of names)) (subst AllDiffer (split-names names i d below) differ)

  pub wrote-at : Wrote mid new (get_or names i d).now text → WroteEach old new (take (i + 1) (names_of names)) (take (i + 1) texts)
  wrote-at h =
      let next : i + 1 ≡ suc i = omega arith in
      let front : take (i + 1) texts ≡ take i texts ++ (text ∷ []) = ap (λ n. take n texts) next ∙ (take-suc texts i text there ∙ ap (λ t. take i texts ++ (t ∷ [])) (sym is)) in
      subst (λ before. WroteEach old new before (take (i + 1) texts)) (sym (take-names names i d below))
      (subst (λ done. WroteEach old new (take i (names_of names) ++ ((get_or names i d).now ∷ [])) done) (sym front) (wrote-next old mid new (take i (names_of names)) (take i texts) (get_or names i d).now text w apart h))

  pub fails-at : (first : ℕ) → FailsToWriteText mid new (get_or names i d).now text → AtPlace first (names_of names) (first + i) (FailsToWriteAt old new texts)
  fails-at first h =
      let all : texts ≡ take i texts ++ (text ∷ drop (suc i) texts) = sym (take-append-drop i texts) ∙ ap (λ more. take i texts ++ more) (drop-cons texts i text there ∙ ap (λ t. t ∷ drop (suc i) texts) (sym is)) in
      let file : length (take i (names_of names)) + first ≡ first + i = omega (arith, length-take_names names i (omega (arith, below))) in
      let failed : FailsToWriteAt old new texts (take i (names_of names)) (get_or names i d).now = subst (λ ts. FailsToWriteAt old new ts (take i (names_of names)) (get_or names i d).now) (sym all)
      (fails-next old mid new (take i (names_of names)) (take i texts) (get_or names i d).now text w apart (drop (suc i) texts) h) in
      subst (λ n. AtPlace first (names_of names) n (FailsToWriteAt old new texts)) file
      (subst (λ names_all. AtPlace first names_all (length (take i (names_of names)) + first) (FailsToWriteAt old new texts)) (sym (split-names names i d below))
      (at-place first (take i (names_of names)) (get_or names i d).now (drop (suc i) (names_of names)) (FailsToWriteAt old new texts) failed))
