-- The literals of the bodies are as many as the rules, and over the variables.
use Rattle.std.proofs.Common.{◌∙◌, sym, subst, subst₂, length, arith, List, Option}
use Rattle.std.specs.List.{AllByRecursion}
use Rattle.asp_base.specs.Literal.{Literal}
use Rattle.clause_store.specs.Stored.{Stored, inputs_only}
use Rattle.completion.specs.Completion.{after_rules, literals_of_rules}
use Rattle.completion.proofs.BodyLaws.{IsOverIfAny, length-literals_of_rules, literals-over}
use Rattle.completion.proofs.translate.add_parts.Goals as goal

pub add_definitions-requires-clause-literals : goal.add_definitions-requires-clause-literals
add_definitions-requires-clause-literals c =
    rw (c.deref.ensures.value, c.in_ok-literals.ensures.literals) (length-literals_of_rules c.args.atoms.now c.args.rules.now c.args.store.now)

pub add_definitions-requires-clause-over : goal.add_definitions-requires-clause-over
add_definitions-requires-clause-over c =
    let atoms = c.args.atoms.now in
    let rules = c.args.rules.now in
    subst₂ (λ (s : Stored) (literals : List (Option Literal)). AllByRecursion (IsOverIfAny s.vars) literals)
    (sym c.in_ok-literals.ensures.store)
    (sym (c.deref.ensures.value ∙ c.in_ok-literals.ensures.literals))
    (subst (λ s. AllByRecursion (IsOverIfAny (after_rules atoms rules s).vars) (literals_of_rules atoms rules s)) (sym c.requires.inputs)
    (literals-over atoms rules (inputs_only (length atoms)) (omega arith) c.requires.fit tt))
