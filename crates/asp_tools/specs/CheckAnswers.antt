-- What the texts of a program and of a set of atoms call for: the set is called stable exactly
-- where it is a stable model of the program, and then the names and costs are said that it has.
use Rattle.std.specs.Prelude.{◌≡◌, ℕ, List, [], ◌∷◌, Result, Ok, Err}
use Rattle.asp_base.specs.Faults.{Fault}
use Rattle.asp_base.specs.Sets.{members}
use Rattle.ground_program.specs.Ground.{Ground}
use Rattle.ground_program.specs.Stable.{Stable, visible, cost}
use Rattle.ground_program.specs.declared.reading.ReadKind.{ReadKind}
use Rattle.stable_check.specs.AtomsText.{atoms_of}
use Rattle.stable_check.specs.Verdicts.{VerdictIs}
use Rattle.stable_check.specs.declared.verdict.Verdict.TheVariants as verdicts
use Rattle.asp_tools.specs.ProgramText.{program_of_text}
use Rattle.asp_tools.specs.Refusing.{IsRefused}
use Rattle.asp_tools.specs.Sayings.{stable_text, broken_rule_text, broken_requirement_text, unfounded_text, cycle_text}
use Rattle.asp_tools.specs.declared.answer.Answer.{Answer}
use Rattle.asp_tools.specs.declared.answer.Answer.TheVariants.{Done, Rejected}
use Rattle.asp_tools.specs.declared.outcome.Kind.TheVariants.{Text}
use Rattle.asp_tools.specs.declared.outcome.Why.TheVariants.{Rule, Requirement, Unfounded, Cycle}

-- a program, and the atoms of a set
abbrev pub Checks : Ground → List ℕ → Answer → List ℕ → Type 0
Checks P atoms Done said =
    Stable P (members atoms) ×
    (said ≡ stable_text (visible P (members atoms)) (cost P (members atoms)))
Checks P atoms (Rejected (Rule place)) said =
    VerdictIs P atoms (verdicts.BrokenRule place) × (said ≡ broken_rule_text place)
Checks P atoms (Rejected (Requirement place)) said =
    VerdictIs P atoms (verdicts.BrokenRequirement place) × (said ≡ broken_requirement_text place)
Checks P atoms (Rejected (Unfounded set)) said =
    VerdictIs P atoms (verdicts.Unfounded set) × (said ≡ unfounded_text set)
Checks P atoms (Rejected (Cycle walk)) said =
    VerdictIs P atoms (verdicts.Cycle walk) × (said ≡ cycle_text walk)
Checks P atoms answer said = ⊥

abbrev pub OfAtoms : Ground → Result (List ℕ) (Fault ReadKind) → Answer → List ℕ → Type 0
OfAtoms P (Err fault) answer said = IsRefused 2 fault.line (Text fault.kind) answer said
OfAtoms P (Ok atoms) answer said = Checks P atoms answer said

abbrev pub OfProgram : Result Ground (Fault ReadKind) → List ℕ → Answer → List ℕ → Type 0
OfProgram (Err fault) atoms answer said = IsRefused 1 fault.line (Text fault.kind) answer said
OfProgram (Ok P) atoms answer said = OfAtoms P (atoms_of atoms) answer said

-- the first faults in the order of the files
abbrev pub CheckAnswers : List (List ℕ) → Answer → List (List ℕ) → List ℕ → Type 0
CheckAnswers (program ∷ atoms ∷ []) answer made said =
    OfProgram (program_of_text program) atoms answer said × (made ≡ [])
CheckAnswers texts answer made said = ⊥
