-- What the store that is left means, and how much was added.
use Rattle.std.proofs.Common.{◌∙◌, sym, ap, subst, subst₂}
use Rattle.clause_store.specs.Stored.{formula_of_store}
use Rattle.level_ranking.specs.Ranked.{HasFounded, AddsFew, AddsByParts}
use Rattle.components.specs.Divided.{part_of, cyclic_numbers}
use Rattle.level_ranking.proofs.BoundOfParts.{adds-by_parts}
use Rattle.level_ranking.proofs.RankedStore.{rankings-have_founded}
use Rattle.level_ranking.proofs.ReadyLaws.{parts-are}
use Rattle.level_ranking.proofs.SourceLaws.{cyclic-rises}
use Rattle.level_ranking.proofs.FirstDigits.{digits-first, no-rankings, none-cyclic}
use Rattle.level_ranking.proofs.StableSets.{stable-from_ranked}
use Rattle.completion.specs.Supported.{HasStable}
use Rattle.level_ranking.specs.Encoding.{with_rankings}
use Rattle.level_ranking.proofs.SizeOfRankings.{rankings-few}
use Rattle.level_ranking.proofs.ranking.rank.Goals as goal

pub returns-clause-founded : goal.returns-clause-founded
returns-clause-founded c =
    subst (λ s. HasFounded c.args.program.now (part_of c.args.parts.now) (cyclic_numbers c.args.parts.now) (formula_of_store s 1)) (sym c.in_ok-add_rankings.ensures)
    (rankings-have_founded c.args.program.now c.known.ensures.facts c.requires.normal (part_of c.args.parts.now) (cyclic_numbers c.args.parts.now)
    (parts-are c.args.program.now c.known.ensures.facts c.args.parts.now c.requires.parts))

pub returns-clause-few : goal.returns-clause-few
returns-clause-few c =
    subst₂ (λ s t. AddsFew c.args.program.now s t) (sym c.requires.store) (sym c.in_ok-add_rankings.ensures)
    (rankings-few c.args.program.now c.known.ensures.facts c.requires.normal (part_of c.args.parts.now) (cyclic_numbers c.args.parts.now) (cyclic-rises c.args.parts.now)
    (parts-are c.args.program.now c.known.ensures.facts c.args.parts.now c.requires.parts))

pub returns-clause-by_parts : goal.returns-clause-by_parts
returns-clause-by_parts c =
    subst₂ (λ s t. AddsByParts c.args.program.now (part_of c.args.parts.now) (cyclic_numbers c.args.parts.now) s t) (sym c.requires.store) (sym c.in_ok-add_rankings.ensures)
    (adds-by_parts c.args.program.now c.known.ensures.facts c.requires.normal (part_of c.args.parts.now) (cyclic_numbers c.args.parts.now)
    (parts-are c.args.program.now c.known.ensures.facts c.args.parts.now c.requires.parts))

pub returns-clause-stable : goal.returns-clause-stable
returns-clause-stable c = λ none.
    subst (λ s. HasStable c.args.program.now (formula_of_store s 1)) (sym c.in_ok-add_rankings.ensures)
    (stable-from_ranked c.args.program.now (part_of c.args.parts.now) (cyclic_numbers c.args.parts.now)
    (formula_of_store (with_rankings c.args.program.now (part_of c.args.parts.now) (cyclic_numbers c.args.parts.now)) 1) none
    (rankings-have_founded c.args.program.now c.known.ensures.facts c.requires.normal (part_of c.args.parts.now) (cyclic_numbers c.args.parts.now)
    (parts-are c.args.program.now c.known.ensures.facts c.args.parts.now c.requires.parts)))

pub returns-clause-digits : goal.returns-clause-digits
returns-clause-digits c = digits-first c.args.program.now c.known.ensures.facts (part_of c.args.parts.now) (cyclic_numbers c.args.parts.now)

pub returns-clause-unchanged : goal.returns-clause-unchanged
returns-clause-unchanged c = λ tight.
    c.in_ok-add_rankings.ensures
    ∙ (ap (λ parts. with_rankings c.args.program.now (part_of c.args.parts.now) parts) (none-cyclic c.args.program.now c.args.parts.now c.requires.parts tight)
    ∙ (no-rankings c.args.program.now (part_of c.args.parts.now) ∙ sym c.requires.store))
