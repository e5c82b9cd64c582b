-- Texts that are read one after another.
use Rattle.std.proofs.Common.{◌≡◌, sym, ◌∙◌, ap, subst, ℕ, ◌+◌, ◌≤◌, ◌<◌, ◌↔◌, List, [], ◌∷◌, ◌++◌, length, take, drop, suc, get_or, Option, Some, IfSome, arith, length-append}
use Rattle.std.specs.Borrow.{Bor}
use Rattle.std.specs.List.{AllByRecursion}
use Rattle.std.specs.Io.KnownBytes.{IsAtEnd}
use Rattle.asp_base.specs.Desk.{DeskState, Rose}
use Rattle.asp_base.specs.Take.{TakeKeeps}
use Rattle.asp_base.proofs.Each.{each, each-push}
use Rattle.job_shell.specs.Ran.{Stopped, TooLongExactly}
use Rattle.job_shell.specs.Reads.{text_limit, AllDiffer, AtPlace, FailsAtRead, IfHeld, IsTooLong, first_too_long, names_of}
use Rattle.job_shell.specs.private.ReadTexts.{HasReadOne, NotRead, HasRead}
use Rattle.job_shell.specs.declared.ended.Ended.{Ended}
use Rattle.job_shell.specs.declared.ended.Ended.TheVariants.{Answered, TooLong, ReadFault, WriteFault, Memory}
use Rattle.job_shell.proofs.HeldLaws.{told-next}
use Rattle.job_shell.proofs.PlaceLaws.{at-place, last_of-next, length-take_names, split-names, take-names}
use Rattle.job_shell.proofs.TooLongLaws.{told-too_long, exactly-at}

pub keeps-then : (old mid new : DeskState) → TakeKeeps old mid → TakeKeeps mid new → TakeKeeps old new
keeps-then old mid new a b = record {
  held = b.held ∙ a.held;
  made = b.made ∙ a.made;
  writing = b.writing ∙ a.writing;
  said = b.said ∙ a.said;
  write_faults = b.write_faults ∙ a.write_faults;
  write_failed = b.write_failed ∙ a.write_failed;
}

module _ (old mid new : DeskState) (before texts : List (List ℕ)) (name : List ℕ) (r : HasRead before old mid texts) where
  -- one more text was read
  pub read-next : (text : List ℕ) → HasReadOne mid new name text → HasRead (before ++ (name ∷ [])) old new (texts ++ (text ∷ []))
  read-next text t =
      let few : new.given ≤ text_limit = subst (λ n. n ≤ text_limit) (sym t.took.took.given) t.took.within in
      let long : (other : List ℕ) → IsTooLong new other → ⊥ = λ other l. omega (arith, few, l.given) in
      let Told : (List ℕ → Option (List ℕ)) → Type 0 = λ held. IfSome (held name) (λ content. text ≡ content) in
      record {
        told = told-next old before texts name text r.told (subst Told r.keeps.held t.took.whole);
        count = length-append texts (text ∷ []) ∙ (ap (λ n. n + 1) r.count ∙ sym (length-append before (name ∷ [])));
        within = each-push (λ text. length text ≤ text_limit) texts text r.within t.took.within;
        read = record {
          last = subst (λ o. IfSome o (λ name. (new.reading ≡ Some name) × IsAtEnd new.left)) (sym (last_of-next before name)) (t.took.took.reading, t.took.nothing_left);
          held = t.keeps.held ∙ r.read.held;
          read_faults = t.took.took.read_faults ∙ r.read.read_faults;
        };
        short = each (λ name. ¬ IsTooLong new name) long (before ++ (name ∷ []));
        keeps = keeps-then old mid new r.keeps t.keeps;
      }

  -- one more text was not read
  module _ (more : List (List ℕ)) (file : ℕ) (here : length before + 1 ≡ file) where
    pub not-read : {A : Type 0} (ended : Ended A) → NotRead file mid new name ended → Stopped (before ++ (name ∷ more)) old new ended
    not-read (Answered answer) n = n
    not-read (TooLong other) n =
        let is : length before + 1 ≡ other = here ∙ sym n.0 in
        let Long : (List ℕ → Option (List ℕ)) → Type 0 = λ held. IfSome (held name) (λ text. text_limit < length text) in
        record {
          told = subst (λ n. IfHeld old (before ++ (name ∷ more)) (λ contents. first_too_long 1 contents ≡ Some n)) is (told-too_long old before name more texts r.told r.count r.within (subst Long r.keeps.held n.1));
          place = subst (λ n. AtPlace 1 (before ++ (name ∷ more)) n (λ _ name. IsTooLong new name)) is (at-place 1 before name more (λ _ name. IsTooLong new name) n.2);
          read_faults = n.3.read_faults ∙ r.read.read_faults;
          keeps = keeps-then old mid new r.keeps n.3.keeps;
        }
    not-read (ReadFault other) n =
        let is : length before + 1 ≡ other = here ∙ sym n.0 in
        let failed : FailsAtRead old new name = record { rose = subst (λ c. Rose c new.read_faults) r.read.read_faults n.1.rose; place = n.1.place } in (
          subst (λ n. AtPlace 1 (before ++ (name ∷ more)) n (λ _ name. FailsAtRead old new name)) is (at-place 1 before name more (λ _ name. FailsAtRead old new name) failed),
          keeps-then old mid new r.keeps n.2,
        )
    not-read (WriteFault other) n = n
    not-read Memory n = record { read_faults = n.read_faults ∙ r.read.read_faults; keeps = keeps-then old mid new r.keeps n.keeps }

-- an end at which a text is too long names its place
pub too_long-place : {A : Type 0} (mid new : DeskState) (name : List ℕ) (file other : ℕ) (ended : Ended A) → NotRead file mid new name ended → ended ≡ TooLong other → other ≡ file
too_long-place {A} mid new name file other ended n e = let P : Ended A → Type 0 = λ o. NotRead file mid new name o in (subst P e n).0

-- ---- the name at an index

module _ (old mid new : DeskState) (names : List (Bor (List ℕ))) (i : ℕ) (d : Bor (List ℕ)) (below : i < length names) (texts : List (List ℕ))
    (r : HasRead (take i (names_of names)) old mid texts) where
  pub read-at : (text : List ℕ) → HasReadOne mid new (get_or names i d).now text → HasRead (take (i + 1) (names_of names)) old new (texts ++ (text ∷ []))
  read-at text h =
      subst (λ front. HasRead front old new (texts ++ (text ∷ []))) (sym (take-names names i d below)) (read-next old mid new (take i (names_of names)) texts (get_or names i d).now r text h)

  module _ (file : ℕ) (at : file ≡ i) where
    here : length (take i (names_of names)) + 1 ≡ file + 1
    here = ap (λ n. n + 1) (length-take_names names i (omega (arith, below)) ∙ sym at)

    pub not-read-at : {A : Type 0} (ended : Ended A) → NotRead (file + 1) mid new (get_or names i d).now ended → Stopped (names_of names) old new ended
    not-read-at ended n =
        subst (λ all. Stopped all old new ended) (sym (split-names names i d below))
        (not-read old mid new (take i (names_of names)) texts (get_or names i d).now r (drop (suc i) (names_of names)) (file + 1) here ended n)

    pub exactly-at_name : {A : Type 0} (ended : Ended A) → AllDiffer (names_of names) → NotRead (file + 1) mid new (get_or names i d).now ended
        → (text_limit < new.given → new.reading ≡ Some (get_or names i d).now) → (IsTooLong new (get_or names i d).now ↔ (ended ≡ TooLong (file + 1))) → TooLongExactly 1 (names_of names) new ended
    exactly-at_name ended differ n given long =
        subst (λ all. TooLongExactly 1 all new ended) (sym (split-names names i d below))
        (exactly-at new (take i (names_of names)) (get_or names i d).now (drop (suc i) (names_of names)) ended (file + 1) (subst AllDiffer (split-names names i d below) differ) here given long
        (λ other. too_long-place mid new (get_or names i d).now (file + 1) other ended n))

  -- memory ran out behind a text that was read
  pub short-all : (text : List ℕ) → HasReadOne mid new (get_or names i d).now text → AllByRecursion (λ name. ¬ IsTooLong new name) (names_of names)
  short-all text h =
      let few : new.given ≤ text_limit = subst (λ n. n ≤ text_limit) (sym h.took.took.given) h.took.within in
      let long : (other : List ℕ) → IsTooLong new other → ⊥ = λ other l. omega (arith, few, l.given) in
      each (λ name. ¬ IsTooLong new name) long (names_of names)
