-- What the lines of a part say of the text.
use Rattle.std.proofs.Common.{◌≡◌, ◌∙◌, ℕ, List, [], ◌∷◌, Result, Ok, Err, IfErr, sym, ap, subst}
use Rattle.asp_scan.specs.Lines.{Line}
use Rattle.asp_scan.specs.Scanning.{Scanning, at_lines, next as next_line}
use Rattle.ground_program.specs.Draft.{Draft}
use Rattle.asp_base.specs.Faults.{Fault, fault, Refuses, refusal_at}
use Rattle.ground_program.specs.declared.reading.ReadKind.{ReadKind}
use Rattle.ground_program.specs.declared.reading.ReadKind.TheVariants as kinds
use Rattle.asp_base.specs.declared.faults.Refusal.{Refusal}
use Rattle.asp_base.specs.declared.faults.Refusal.TheVariants.{At}
use Rattle.statement_fields.specs.Fields.{Faults}
use Rattle.asp_base.specs.declared.faults.LineFault.{LineFault}
use Rattle.asp_base.specs.declared.faults.LineFault.TheVariants as faults
use Rattle.smodels_format.specs.Read.{Entry, Adds, Ends, Stage, part, models, number_of_models}
use Rattle.statement_fields.specs.Parts.{ended_text}

pub refused : {A E : Type 0} (P : E → Type 0) {r : Result A E} {e : E} → r ≡ Err e → P e → IfErr r P
refused P is h = subst (λ r. IfErr r P) (sym is) h

module _ (entry : Draft → List ℕ → Result Entry ReadKind) (next : Stage) (last : ℕ) (draft : Draft) where
  abbrev behind_entry : Line → List Line → Result Entry ReadKind → Result Draft (Fault ReadKind)
  behind_entry line lines read = elim read [
    | Err kind ↦ fault line.number kind
    | Ok Ends ↦ next draft lines
    | Ok (Adds more) ↦ part entry next last more lines
  ]

  -- a fault of an entry is the text's
  entry-faults : (line : Line) (lines : List Line) (fault : LineFault ReadKind) → Faults (entry draft line.bytes) fault
      → Refuses (part entry next last draft (line ∷ lines)) (refusal_at line.number fault)
  entry-faults line lines (faults.Kind kind) h = ap (behind_entry line lines) h
  entry-faults line lines faults.Memory h = tt

  pub part-fails : (whole : Result Draft (Fault ReadKind)) (refusal : Refusal ReadKind) (line : Line) (ahead lines : List Line) (left : List ℕ) (fault : LineFault ReadKind)
      → part entry next last draft ahead ≡ whole → ahead ≡ line ∷ lines → left ≡ line.bytes → Faults (entry draft left) fault → refusal ≡ refusal_at line.number fault
      → Refuses whole refusal
  part-fails whole refusal line ahead lines left fault is at here h named =
      let faulty : Refuses (part entry next last draft (line ∷ lines)) (refusal_at line.number fault) =
      entry-faults line lines fault (subst (λ bytes. Faults (entry draft bytes) fault) here h)
      in
      subst (Refuses whole) (sym named)
      (subst (λ read. Refuses read (refusal_at line.number fault)) (ap (part entry next last draft) (sym at) ∙ is) faulty)

-- the text ends in a part
pub part-stops : (entry : Draft → List ℕ → Result Entry ReadKind) (next : Stage) (draft : Draft)
    (whole : Result Draft (Fault ReadKind)) (refusal : Refusal ReadKind) (before after : Scanning)
    → part entry next before.last draft before.ahead ≡ whole → before.ahead ≡ [] → after ≡ next_line before → refusal ≡ At after.line.number kinds.NoEnd → Refuses whole refusal
part-stops entry next draft whole refusal before after is none stands named =
    let at_end : after.line.number ≡ before.last = ap (λ s. s.line.number) stands ∙ ap (λ lines. (at_lines lines before.last).line.number) none in
    subst (Refuses whole) (sym (named ∙ ap (λ n. At n kinds.NoEnd) at_end)) (sym is ∙ ap (part entry next before.last draft) none)

-- behind the number of models
abbrev behind_models : Line → List Line → Result Draft ReadKind → Result Draft (Fault ReadKind)
behind_models line lines read = elim read [ Err kind ↦ fault line.number kind | Ok done ↦ ended_text done lines ]

pub models-ended : (draft : Draft) (line : Line) (ahead lines behind : List Line) (left : List ℕ) → ahead ≡ line ∷ lines → left ≡ line.bytes → number_of_models draft left ≡ Ok draft
    → behind ≡ lines → models draft ahead ≡ ended_text draft behind
models-ended draft line ahead lines behind left at here read same =
    ap (models draft) at
    ∙ ap (behind_models line lines) (ap (number_of_models draft) (sym here) ∙ read)
    ∙ ap (ended_text draft) (sym same)

-- what is behind a part is the same where the line of the end is
pub moved : {whole : Result Draft (Fault ReadKind)} {now last : ℕ} (stage : ℕ → Result Draft (Fault ReadKind)) → now ≡ last → whole ≡ stage last → whole ≡ stage now
moved stage same is = is ∙ ap stage (sym same)

pub refuses-behind : {whole stage : Result Draft (Fault ReadKind)} (refusal : Refusal ReadKind) → whole ≡ stage → Refuses stage refusal → Refuses whole refusal
refuses-behind refusal is h = subst (λ read. Refuses read refusal) (sym is) h
