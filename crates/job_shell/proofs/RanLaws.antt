-- From what was read, replied, written and said to how a job ends; and what an end without a fault is.
use Rattle.std.proofs.Common.{◌≡◌, refl, sym, ◌∙◌, ap, subst, ◌⊎◌, inl, inr, ⊎_elim, ℕ, suc, ◌<◌, Bool, true, false, cond, List, [], ◌∷◌, ◌++◌, length, take, Option, Some, IfSome, arith}
use Rattle.std.proofs.Math.Seq.{take-length}
use Rattle.std.proofs.lemmas.Option.{IfSome_then}
use Rattle.std.specs.Io.KnownBytes.{Appends, IsAtEnd}
use Rattle.asp_base.specs.Desk.{DeskState, Rose, Says, FailsToSay}
use Rattle.asp_base.proofs.Each.{each-weaker}
use Rattle.job_shell.specs.Ran.{Promise, CallFor, Replied, outputs_with, IsMade, AreMade, AreMadeBefore, OnlyUnder, Done, SayingFails, WritingFails, Stopped, Ran, NoFault, EndsAs, Completes, TooLongExactly}
use Rattle.job_shell.specs.Reads.{text_limit, AtPlace, FailsAtRead, IsTooLong, ReadToEnds, first_too_long, last_of}
use Rattle.job_shell.specs.private.Delivers.{Delivers}
use Rattle.job_shell.specs.private.ReadTexts.{HasRead}
use Rattle.job_shell.specs.private.Written.{WroteEach, FailsToWriteAt}
use Rattle.job_shell.specs.declared.ended.Ended.{Ended}
use Rattle.job_shell.specs.declared.ended.Ended.TheVariants.{Answered, TooLong, ReadFault, WriteFault, Memory}
use Rattle.job_shell.proofs.HeldLaws.{held-then, held-always, told-same}
use Rattle.job_shell.proofs.PlaceLaws.{at-then, at-any}
use Rattle.job_shell.proofs.TooLongLaws.{exactly-none, is_too_long, none-too_long}

-- ---- without a fault

-- the end of a job over these texts is right
abbrev Right : {A : Type 0} → Promise A → DeskState → DeskState → Ended A → List (List ℕ) → Type 0
Right promise old new ended texts = NoFault old new → EndsAs promise texts ended ⊎ (ended ≡ Memory)

module _ {A : Type 0} (promise : Promise A) (reads : List (List ℕ)) (old new : DeskState) where
  pub memory-completes : Completes promise reads old new Memory
  memory-completes = held-always old reads (Right promise old new Memory) (λ texts quiet. inr refl)

  pub stopped-completes : (ended : Ended A) → Stopped reads old new ended → Completes promise reads old new ended
  stopped-completes (Answered answer) h = absurd h
  stopped-completes (TooLong file) h = held-then old reads (λ texts. first_too_long 1 texts ≡ Some file) (Right promise old new (TooLong file)) h.told (λ texts e quiet. inl e)
  stopped-completes (ReadFault file) h =
      held-always old reads (Right promise old new (ReadFault file)) (λ texts quiet. absurd (quiet.reading (at-any 1 reads file (λ _ name. FailsAtRead old new name) h.0 (λ _ name failed. failed.rose))))
  stopped-completes (WriteFault file) h = absurd h
  stopped-completes Memory h = memory-completes

  pub ran-completes : (writes : List (List ℕ)) (ended : Ended A) → Ran promise reads writes old new ended → Completes promise reads old new ended
  ran-completes writes (Answered answer) h =
      held-then old reads (λ texts. (made : List (List ℕ)) × (said : List ℕ) × CallFor promise texts answer made said × (AreMade old new (outputs_with promise writes answer) made × Appends old.said new.said said))
      (Right promise old new (Answered answer)) h.told (λ texts t quiet. inl (t.0, t.1, t.2))
  ran-completes writes (TooLong file) h = stopped-completes (TooLong file) h
  ran-completes writes (ReadFault file) h = stopped-completes (ReadFault file) h
  ran-completes writes (WriteFault file) h =
      held-always old reads (Right promise old new (WriteFault file)) (λ texts quiet. absurd (quiet.writing (⊎_elim (λ k. k.1.rose)
      (λ k. at-any (suc (length reads)) writes file (WritingFails promise reads old new) k (λ _ name failed. failed.rose)) h)))
  ran-completes writes Memory h = stopped-completes Memory h

-- ---- what was made, seen from the start to the end

module _ (old mid fin new : DeskState) (start : mid.made ≡ old.made) (end : new.made ≡ fin.made) where
  is-made : (name text : List ℕ) → IsMade mid fin name text → IsMade old new name text
  is-made name text h =
      let P : (List ℕ → Option (Option (List ℕ))) → Type 0 = λ m. IfSome (m name) (λ _. new.made name ≡ Some (Some text)) in
      subst P start (IfSome_then (mid.made name) h (λ _ e. ap (λ m. m name) end ∙ e))

  are-made : (names texts : List (List ℕ)) → AreMade mid fin names texts → AreMade old new names texts
  are-made [] [] h = h
  are-made [] (_ ∷ _) h = h
  are-made (_ ∷ _) [] h = h
  are-made (name ∷ names) (text ∷ texts) h = (is-made name text h.0, are-made names texts h.1)

  are-made-before : (before : List (List ℕ)) (name : List ℕ) (texts : List (List ℕ)) → AreMadeBefore mid fin before name texts → AreMadeBefore old new before name texts
  are-made-before before name [] h = h
  are-made-before [] name (text ∷ texts) h =
      let P : (List ℕ → Option (Option (List ℕ))) → (List ℕ → Option (Option (List ℕ))) → Type 0 = λ m m'. IfSome (m name) (λ _. (m' name ≡ m name) ⊎ ((n : ℕ) × (m' name ≡ Some (Some (take n text))))) in
      subst (λ m. P m new.made) start (subst (λ m. P mid.made m) (sym end) h)
  are-made-before (first ∷ before) name (text ∷ texts) h = (is-made first text h.0, are-made-before before name texts h.1)

  only-under : (names : List (List ℕ)) → OnlyUnder names mid fin → OnlyUnder names old new
  only-under names h other apart = ap (λ m. m other) end ∙ (h other apart ∙ ap (λ m. m other) start)

-- ---- the number of the texts that are made

front-of : (b : Bool) (writes : List (List ℕ)) (n : ℕ) → n ≡ cond b (length writes) 0 → take n writes ≡ cond b writes []
front-of true writes n e = ap (λ k. take k writes) e ∙ take-length writes
front-of false writes n e = ap (λ k. take k writes) e

made-some : (b : Bool) (n : ℕ) (old new : DeskState) (before : List (List ℕ)) (name : List ℕ) (made : List (List ℕ)) → length made ≡ cond b n 0 → AreMadeBefore old new before name made → b ≡ true
made-some true n old new before name made e h = refl
made-some false n old new before name [] e h = absurd h
made-some false n old new before name (text ∷ made) e h = absurd (omega (arith, e))

said-some : (b : Bool) (said : List ℕ) → (b ≡ false → said ≡ []) → 0 < length said → b ≡ true
said-some true said silent some = refl
said-some false said silent some = let none : length said ≡ 0 = ap length (silent refl) in absurd (omega (arith, some, none))

-- ---- from the reply on

module _ (reads : List (List ℕ)) (old mid new : DeskState) (texts : List (List ℕ)) (r : HasRead reads old mid texts) where
  still-read : new.reading ≡ mid.reading → new.left ≡ mid.left → new.held ≡ mid.held → new.read_faults ≡ mid.read_faults → ReadToEnds reads old new
  still-read reading left held faults = record {
    last = IfSome_then (last_of reads) r.read.last (λ name h. (reading ∙ h.0, subst IsAtEnd (sym left) h.1));
    held = held ∙ r.read.held;
    read_faults = faults ∙ r.read.read_faults;
  }

  still-short : {A : Type 0} → new.reading ≡ mid.reading → new.given ≡ mid.given → (ended : Ended A) → is_too_long ended ≡ false → TooLongExactly 1 reads new ended
  still-short reading given ended other =
      exactly-none new ended other 1 reads (each-weaker (λ name. ¬ IsTooLong mid name) (λ name. ¬ IsTooLong new name)
      (λ name short long. short (record { given = subst (λ n. text_limit < n) given long.given; reading = sym reading ∙ long.reading })) reads r.short)

  pub delivered-exactly : {A : Type 0} (writes : List (List ℕ)) (first : ℕ) (answer : A) (made : List (List ℕ)) (said : List ℕ) (ended : Ended A) → Delivers writes first answer made said mid new ended → TooLongExactly 1 reads new ended
  delivered-exactly writes first answer made said (Answered given) h =
      let w = h.1.1 in let s = h.1.2 in
      still-short (ap (λ (d : DeskState). d.reading) s.rest ∙ ap (λ (d : DeskState). d.reading) w.rest) (ap (λ (d : DeskState). d.given) s.rest ∙ ap (λ (d : DeskState). d.given) w.rest) (Answered given) refl
  delivered-exactly writes first answer made said (TooLong file) h = absurd h
  delivered-exactly writes first answer made said (ReadFault file) h = absurd h
  delivered-exactly {A} writes first answer made said (WriteFault file) h = ⊎_elim
      (λ k. let w = k.1.1 in let s = k.1.2 in
      still-short {A = A} (ap (λ (d : DeskState). d.reading) s.rest ∙ ap (λ (d : DeskState). d.reading) w.rest) (ap (λ (d : DeskState). d.given) s.rest ∙ ap (λ (d : DeskState). d.given) w.rest) (WriteFault file) refl)
      (λ k. at-any first writes file (FailsToWriteAt mid new made) k (λ _ _ w. still-short {A = A} (ap (λ (d : DeskState). d.reading) w.rest) (ap (λ (d : DeskState). d.given) w.rest) (WriteFault file) refl)) h
  delivered-exactly writes first answer made said Memory h = absurd h

module _ {A : Type 0} (promise : Promise A) (reads writes : List (List ℕ)) (old mid new : DeskState) (texts : List (List ℕ)) (r : HasRead reads old mid texts)
    (answer : A) (made : List (List ℕ)) (said : List ℕ) (answers : promise.answers texts answer made said) (outputs : ℕ) (all : length writes ≡ outputs)
    (counted : length made ≡ cond (promise.makes answer) outputs 0) (silent : promise.says answer ≡ false → said ≡ []) where
  told : (F : List (List ℕ) → List ℕ → Type 0) → F made said → Replied promise reads old answer F
  told F f =
      let called : CallFor promise texts answer made said = record { within = none-too_long 1 texts r.within; answers = answers; silent = silent } in
      told-same old reads texts (λ texts. (made : List (List ℕ)) × (said : List ℕ) × CallFor promise texts answer made said × F made said) r.told (made, said, called, f)

  -- a writing failed
  cut : (before : List (List ℕ)) (name : List ℕ) → FailsToWriteAt mid new made before name → WritingFails promise reads old new before name
  cut before name w = record {
    rose = subst (λ c. Rose c new.write_faults) r.keeps.write_faults w.counts.rose;
    place = ap (λ (d : DeskState). d.write_failed) w.rest;
    answer = answer;
    makes = made-some (promise.makes answer) outputs mid new before name made counted w.made;
    read = still-read reads old mid new texts r (ap (λ (d : DeskState). d.reading) w.rest) (ap (λ (d : DeskState). d.left) w.rest) (ap (λ (d : DeskState). d.held) w.rest)
        (ap (λ (d : DeskState). d.read_faults) w.rest);
    told = told (λ made said. AreMadeBefore old new before name made) (are-made-before old mid new new r.keeps.made refl before name made w.made);
    others = only-under old mid new new r.keeps.made refl (before ++ (name ∷ [])) w.others;
    said = ap (λ (d : DeskState). d.said) w.rest ∙ r.keeps.said;
  }

  -- all was written
  module _ (fin : DeskState) (w : WroteEach mid fin (take (length made) writes) made) where
    names : take (length made) writes ≡ outputs_with promise writes answer
    names = front-of (promise.makes answer) writes (length made) (counted ∙ ap (λ n. cond (promise.makes answer) n 0) (sym all))

    all-made : new.made ≡ fin.made → AreMade old new (outputs_with promise writes answer) made
    all-made e = subst (λ n. AreMade old new n made) names (are-made old mid fin new r.keeps.made e (take (length made) writes) made w.made)

    others-same : new.made ≡ fin.made → OnlyUnder (outputs_with promise writes answer) old new
    others-same e = subst (λ n. OnlyUnder n old new) names (only-under old mid fin new r.keeps.made e (take (length made) writes) w.others)

    said-before : fin.said ≡ old.said
    said-before = ap (λ (d : DeskState). d.said) w.rest ∙ r.keeps.said

    done : Says fin new said → Done promise reads writes old new answer
    done s = record {
      read = still-read reads old mid new texts r (ap (λ (d : DeskState). d.reading) s.rest ∙ ap (λ (d : DeskState). d.reading) w.rest)
          (ap (λ (d : DeskState). d.left) s.rest ∙ ap (λ (d : DeskState). d.left) w.rest) (ap (λ (d : DeskState). d.held) s.rest ∙ ap (λ (d : DeskState). d.held) w.rest)
          (ap (λ (d : DeskState). d.read_faults) s.rest ∙ ap (λ (d : DeskState). d.read_faults) w.rest);
      told = told (λ made said. AreMade old new (outputs_with promise writes answer) made × Appends old.said new.said said)
          (all-made (ap (λ (d : DeskState). d.made) s.rest), subst (λ before. Appends before new.said said) said-before s.said);
      others = others-same (ap (λ (d : DeskState). d.made) s.rest);
      silent = λ e. ap (λ (d : DeskState). d.said) (s.empty (ap length (silent e))) ∙ said-before;
      writing = ap (λ (d : DeskState). d.writing) s.rest ∙ (ap (λ (d : DeskState). d.writing) w.rest ∙ r.keeps.writing);
      write_faults = ap (λ (d : DeskState). d.write_faults) s.rest ∙ (ap (λ (d : DeskState). d.write_faults) w.rest ∙ r.keeps.write_faults);
    }

    unsaid : FailsToSay fin new said → SayingFails promise reads writes old new
    unsaid s = record {
      rose = subst (λ c. Rose c new.write_faults) (ap (λ (d : DeskState). d.write_faults) w.rest ∙ r.keeps.write_faults) s.counts.rose;
      place = ap (λ (d : DeskState). d.write_failed) s.rest;
      answer = answer;
      says = said-some (promise.says answer) said silent s.some;
      read = still-read reads old mid new texts r (ap (λ (d : DeskState). d.reading) s.rest ∙ ap (λ (d : DeskState). d.reading) w.rest)
          (ap (λ (d : DeskState). d.left) s.rest ∙ ap (λ (d : DeskState). d.left) w.rest) (ap (λ (d : DeskState). d.held) s.rest ∙ ap (λ (d : DeskState). d.held) w.rest)
          (ap (λ (d : DeskState). d.read_faults) s.rest ∙ ap (λ (d : DeskState). d.read_faults) w.rest);
      told = told (λ made said. AreMade old new (outputs_with promise writes answer) made × ((n : ℕ) × Appends old.said new.said (take n said)))
          (all-made (ap (λ (d : DeskState). d.made) s.rest), (s.said.0, subst (λ before. Appends before new.said (take s.said.0 said)) said-before s.said.1));
      others = others-same (ap (λ (d : DeskState). d.made) s.rest);
      writing = ap (λ (d : DeskState). d.writing) s.rest ∙ (ap (λ (d : DeskState). d.writing) w.rest ∙ r.keeps.writing);
    }

  module _ (first : ℕ) (place : first ≡ suc (length reads)) where
    pub delivered-ran : (ended : Ended A) → Delivers writes first answer made said mid new ended → Ran promise reads writes old new ended
    delivered-ran (Answered given) h = subst (λ a. Done promise reads writes old new a) (sym h.0) (done h.1.0 h.1.1 h.1.2)
    delivered-ran (TooLong file) h = absurd h
    delivered-ran (ReadFault file) h = absurd h
    delivered-ran (WriteFault file) h = ⊎_elim
        (λ k. inl (k.0, unsaid k.1.0 k.1.1 k.1.2))
        (λ k. inr (subst (λ n. AtPlace n writes file (WritingFails promise reads old new)) place (at-then first writes file (FailsToWriteAt mid new made) (WritingFails promise reads old new) k cut))) h
    delivered-ran Memory h = absurd h

    pub delivered-completes : (ended : Ended A) → Delivers writes first answer made said mid new ended → Completes promise reads old new ended
    delivered-completes ended h = ran-completes promise reads old new writes ended (delivered-ran ended h)
