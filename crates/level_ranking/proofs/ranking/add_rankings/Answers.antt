-- There are variables enough, and without cyclic components nothing is added.
use Rattle.std.proofs.Common.{rules, ◌≡◌, ◌∙◌, sym, ap, ap₂, false, length, filter, arith}
use Rattle.rising_numbers.specs.Rising.{place}
use Rattle.completion.proofs.BodyLaws.{with_bodies-above}
use Rattle.level_ranking.specs.Encoding.{after_digits}
use Rattle.level_ranking.specs.private.Sources.{is_ranked, width_among}
use Rattle.level_ranking.proofs.RankRoom.{all-vars, rules-few}
use Rattle.level_ranking.proofs.FirstDigits.{without_cyclic}
use Rattle.level_ranking.proofs.ranking.add_rankings.Goals as goal

pub numbers-requires-clause-within : goal.numbers-requires-clause-within
numbers-requires-clause-within c =
    let atoms_are = c.as_slice-atoms.ensures.is ∙ ap (λ p. p.atoms) c.program.view_is in
    let above = with_bodies-above c.args.given.program.now in
    let vars = ap (λ s. s.vars) c.requires.store in
    omega (arith, ap length atoms_are, above, vars)

pub numbers-requires-clause-room : goal.numbers-requires-clause-room
numbers-requires-clause-room c =
    let atoms_are = c.as_slice-atoms.ensures.is ∙ ap (λ p. p.atoms) c.program.view_is in
    let all = all-vars c.args.given.program.now c.known.ensures.facts c.requires.given.normal c.args.given.parts.now c.requires.given.parts c.requires.given.small in
    let same = ap₂ (λ atoms s. (after_digits (place atoms) (width_among c.args.given.parts.now atoms) (filter (is_ranked c.args.given.parts.now) atoms) s).vars) atoms_are c.requires.store in
    omega (arith, all, same)

pub heads-requires-clause-few : goal.heads-requires-clause-few
heads-requires-clause-few c =
    let rules_are = c.as_slice.ensures ∙ ap (λ p. p.rules) c.program.view_is in
    let n = rules-few c.args.given.program.now in
    omega (arith, ap length rules_are, n, c.requires.given.small)

pub grouped-requires-clause-few : goal.grouped-requires-clause-few
grouped-requires-clause-few c =
    let rules_are = c.as_slice.ensures ∙ ap (λ p. p.rules) c.program.view_is in
    let n = rules-few c.args.given.program.now in
    omega (arith, ap length rules_are, n, c.requires.given.small, c.in_ok-pairs.ensures.few, c.as_slice-2.ensures.len)

pub add_components-requires-clause-room : goal.add_components-requires-clause-room
add_components-requires-clause-room c =
    let atoms_are = c.as_slice-atoms.ensures.is ∙ ap (λ p. p.atoms) c.program.view_is in
    let all = all-vars c.args.given.program.now c.known.ensures.facts c.requires.given.normal c.args.given.parts.now c.requires.given.parts c.requires.given.small in
    let same = ap₂ (λ atoms s. (after_digits (place atoms) (width_among c.args.given.parts.now atoms) (filter (is_ranked c.args.given.parts.now) atoms) s).vars) atoms_are c.requires.store in
    let now = ap (λ s. s.vars) c.in_ok-table.ensures.store in
    omega (arith, all, same, now)

pub returns-then-not-has_cyclic : goal.returns-then-not-has_cyclic
returns-then-not-has_cyclic c =
    let none : c.has_cyclic.result ≡ false = search rules in
    c.requires.store ∙ sym (without_cyclic c.args.given.program.now c.args.given.parts.now (c.has_cyclic.ensures none))
