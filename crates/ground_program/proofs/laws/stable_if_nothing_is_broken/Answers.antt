use Rattle.ground_program.proofs.BrokenLaws.{unbroken-within, unbroken-stable, stable-unbroken}
use Rattle.ground_program.proofs.laws.stable_if_nothing_is_broken.Goals as goal

pub returns-clause-within : goal.returns-clause-within
returns-clause-within c = unbroken-within

pub returns-clause-stable : goal.returns-clause-stable
returns-clause-stable c = unbroken-stable

pub returns-clause-unbroken : goal.returns-clause-unbroken
returns-clause-unbroken c = stable-unbroken
