-- What is true of all nodes is true of the first ones, with ranks in place of numbers.
use Rattle.std.proofs.Common.{◌≡◌, ℕ, ◌<◌, ◌≤◌, List, length, get_or, take, arith, ap, subst, sym, ◌∙◌}
use Rattle.std.proofs.lemmas.List.{get_or-take, length-take}
use Rattle.graph_parts.specs.Divided.{AreCycles, Divided}
use Rattle.graph_parts.specs.Graph.{has_edge}
use Rattle.graph_parts.specs.Parts.{ArePartsAmong}
use Rattle.graph_parts.specs.private.Ranks.{AreMoved}
use Rattle.graph_parts.proofs.RankLaws.{cycles-among, parts-among}
use Rattle.graph_parts.proofs.among.parts_among.Goals as goal

front : (n : ℕ) (read all : List ℕ) → read ≡ all → (u : ℕ) → u < length (take n read) → get_or (take n read) u 0 ≡ get_or all u 0
front n read all same u below =
    let long = length-take n read in
    get_or-take n read u 0 (omega arith) ∙ ap (λ l. get_or l u 0) same

fewer : (n : ℕ) (read all : List ℕ) → read ≡ all → length (take n read) ≤ length all
fewer n read all same = let long = length-take n read in let equal = ap length same in omega arith

pub returns-clause-parts : goal.returns-clause-parts
returns-clause-parts c =
    subst (λ (d : Divided). ArePartsAmong (has_edge c.args.edges.now) d.numbers d.count) (sym c.new.ensures)
    (parts-among (has_edge c.args.edges.now) c.in_ok-all.all.numbers (take c.args.among c.numbers.result.now) c.in_ok-all.all.count c.in_ok-all.ensures.parts
    (front c.args.among c.numbers.result.now c.in_ok-all.all.numbers c.numbers.ensures) (fewer c.args.among c.numbers.result.now c.in_ok-all.all.numbers c.numbers.ensures)
    c.in_ok-ranks.ranks.numbers.items c.in_ok-ranks.ranks.count c.in_ok-ranks.ensures)

pub returns-clause-cycles : goal.returns-clause-cycles
returns-clause-cycles c =
    subst (λ (d : Divided). AreCycles (has_edge c.args.edges.now) d.numbers d.cyclic) (sym c.new.ensures)
    (cycles-among (has_edge c.args.edges.now) c.in_ok-all.all.numbers (take c.args.among c.numbers.result.now) c.in_ok-all.all.count c.in_ok-all.ensures.parts
    (front c.args.among c.numbers.result.now c.in_ok-all.all.numbers c.numbers.ensures) (fewer c.args.among c.numbers.result.now c.in_ok-all.all.numbers c.numbers.ensures)
    c.in_ok-ranks.ranks.numbers.items c.in_ok-ranks.ranks.count c.in_ok-ranks.ensures c.in_ok-all.all.cyclic c.in_ok-cyclic.cyclic.items c.in_ok-all.ensures.cycles
    (subst (λ (ranked : List ℕ). AreMoved (take c.args.among c.numbers.result.now) ranked c.in_ok-all.all.cyclic (length (take c.args.among c.numbers.result.now)) c.in_ok-cyclic.cyclic.items) c.as_slice.ensures.value c.in_ok-cyclic.ensures.moved))
