-- What was heard, step by step, beside what the reader keeps.
use Rattle.std.proofs.Common.{◌≡◌, ◌≢◌, refl, sym, ◌∙◌, ap, subst, ℕ, ℤ, pos, false, Some, Result, Ok, Err, OnOk, IfErr}
use Rattle.std.specs.Ordering.{int_eq}
use Rattle.std.proofs.lemmas.Bool.{cond-false, false_from_ne_true}
use Rattle.std.proofs.lemmas.Bool.Decides.{Decides-int_eq}
use Rattle.asp_base.specs.Faults.{◌>>=◌}
use Rattle.back_map.specs.Read.{Heard, with_literal, with_number}
use Rattle.back_map.specs.declared.answer.AnswerKind.{AnswerKind}
use Rattle.back_map.specs.private.Kept.{Kept}
use Rattle.back_map.specs.private.Reading.{Hears, HearsOk, Step, Follows, Faults}

-- ---- a step that is another step, where the reader is at such a place

abbrev pub SameAt : {E : Type 0} → Step E → Step E → Kept → Type 0
SameAt step other old = (n : ℕ) (heard : Heard) → Hears n heard old → step n heard ≡ other n heard

pub ok-as : {A E : Type 0} (step other : Step E) (old new : Kept) (result : Result A E) → SameAt step other old → OnOk result (Follows other old new) → OnOk result (Follows step old new)
ok-as step other old new (Ok a) same h = λ n heard hears. subst (λ r. HearsOk n r new) (sym (same n heard hears)) (h n heard hears)
ok-as step other old new (Err kind) same h = tt

pub err-as : {A E : Type 0} (step other : Step E) (old : Kept) (result : Result A E) → SameAt step other old → IfErr result (λ kind. Faults other old kind) → IfErr result (λ kind. Faults step old kind)
err-as step other old (Ok a) same h = tt
err-as step other old (Err kind) same h = λ n heard hears. same n heard hears ∙ h n heard hears

-- a number that is not 0, before the end, is a literal
pub number-same : (number same : ℤ) (old : Kept) → same ≡ number → old.ended ≡ false → number ≢ pos 0 → SameAt (λ n. with_number n (Some number)) (λ n. with_literal n same) old
number-same number same old is more nonzero n heard hears =
    cond-false heard.ended _ _ (sym hears.ended ∙ more)
    ∙ cond-false (int_eq number (pos 0)) _ _ (false_from_ne_true _ (λ e. nonzero ((Decides-int_eq number (pos 0)).0 e)))
    ∙ ap (λ z. with_literal n z heard) (sym is)

-- ---- several steps

-- what is left to hear, from some place that the reader keeps, is the whole
abbrev pub Reaches : {E : Type 0} → Step E → Step E → Kept → Kept → Type 0
Reaches whole left old now = (n : ℕ) (heard : Heard) → Hears n heard old → (at : Heard) × (Hears n at now × (left n at ≡ whole n heard))

pub Reaches-start : {E : Type 0} (whole : Step E) (old : Kept) → Reaches whole whole old old
Reaches-start whole old = λ n heard hears. (heard, (hears, refl))

pub Reaches-done : {E : Type 0} (whole left : Step E) (old now : Kept) → Reaches whole left old now → ((n : ℕ) (h : Heard) → left n h ≡ Ok h) → Follows whole old now
Reaches-done whole left old now reached is = λ n heard hears.
    let at = reached n heard hears in subst (λ r. HearsOk n r now) (sym (is n at.0) ∙ at.1.1) at.1.0

-- the end of what is left is the end of the whole
pub Reaches-ok : {A E : Type 0} (whole left : Step E) (old mid new : Kept) (result : Result A E) → Reaches whole left old mid → OnOk result (Follows left mid new) → OnOk result (Follows whole old new)
Reaches-ok whole left old mid new (Ok a) reached h = λ n heard hears. let at = reached n heard hears in subst (λ r. HearsOk n r new) at.1.1 (h n at.0 at.1.0)
Reaches-ok whole left old mid new (Err e) reached h = tt

pub Reaches-err : {A E : Type 0} (whole left : Step E) (old mid : Kept) (result : Result A E) → Reaches whole left old mid → IfErr result (λ e. Faults left mid e) → IfErr result (λ e. Faults whole old e)
Reaches-err whole left old mid (Ok a) reached h = tt
Reaches-err whole left old mid (Err e) reached h = λ n heard hears. let at = reached n heard hears in sym at.1.1 ∙ h n at.0 at.1.0

-- What is left is one more step and what is left then. The step's fault may get a line.
module _ {E : Type 0} (lift : Result Heard AnswerKind → Result Heard E) (fault : AnswerKind → E) (ok : (h : Heard) → lift (Ok h) ≡ Ok h) (err : (kind : AnswerKind) → lift (Err kind) ≡ Err (fault kind))
    (whole left after : Step E) (step : Step AnswerKind) (old now : Kept) (reached : Reaches whole left old now) (is : (n : ℕ) (h : Heard) → left n h ≡ (lift (step n h) >>= after n)) where
  pub Reaches-next : (new : Kept) → Follows step now new → Reaches whole after old new
  Reaches-next new follows = λ n heard hears.
      let at = reached n heard hears in by n heard at.0 (step n at.0) refl (follows n at.0 at.1.0) at.1.1
    where
      by : (n : ℕ) (heard at : Heard) (r : Result Heard AnswerKind) → step n at ≡ r → HearsOk n r new → left n at ≡ whole n heard
          → (next : Heard) × (Hears n next new × (after n next ≡ whole n heard))
      by n heard at (Err kind) e h same = absurd h
      by n heard at (Ok next) e h same = (next, (h, sym (is n at ∙ ap (λ r. lift r >>= after n) e ∙ ap (λ r. r >>= after n) (ok next)) ∙ same))

  pub Reaches-fails : (kind : AnswerKind) → Faults step now kind → Faults whole old (fault kind)
  Reaches-fails kind faults = λ n heard hears.
      let at = reached n heard hears in
      sym at.1.1 ∙ is n at.0 ∙ ap (λ r. lift r >>= after n) (faults n at.0 at.1.0) ∙ ap (λ r. r >>= after n) (err kind)
