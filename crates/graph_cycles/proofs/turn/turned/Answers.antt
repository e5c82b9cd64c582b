use Rattle.std.proofs.Common.{◌≡◌, ℕ, ◌<◌, ◌≤ℤ◌, ℤ, pos, [], ◌∷◌, ◌++◌, length, get_or, w32, ap, ◌∙◌, subst, SFits, arith, rules}
use Rattle.std.proofs.lemmas.Int.{to_z-of_z}
use Rattle.std.proofs.lemmas.List.{get_or_read}
use Rattle.graph_cycles.proofs.LoopLaws.{turned-cycle}
use Rattle.graph_cycles.proofs.turn.turned.Goals as goal

pub returns : goal.returns
returns c = λ step loop.
    let nodes = c.args.nodes.items in
    let place = c.least_place-least.result in
    let long : length c.as_slice.result.now ≡ length c.args.nodes.items = ap length c.as_slice.ensures.value in
    let within = c.least_place-least.ensures.within in
    let below : c.least_place-least.result < length c.args.nodes.items = omega arith in
    let least : (k : ℕ) (d : ℤ) → k < length c.args.nodes.items → get_or c.args.nodes.items c.least_place-least.result d ≤ℤ get_or c.args.nodes.items k d = subst (λ l. (k : ℕ) (d : ℤ) → k < length l → get_or l c.least_place-least.result d ≤ℤ get_or l k d) c.as_slice.ensures.value c.least_place-least.ensures.least in
    let fits : SFits w32 c.index-start.result.now = search rules in
    let start = to_z-of_z w32 c.index-start.result.now fits ∙ get_or_read nodes place c.index-start.result.now below c.index-start.ensures (pos 0) in
    let pushed = c.in_ok-push.ensures.items ∙ ap (λ z. c.rotate_left.new.self.items ++ (z ∷ [])) start in
    let turned = ap (λ l. l ++ (get_or c.args.nodes.items c.least_place-least.result (pos 0) ∷ [])) c.rotate_left.ensures.items in
    turned-cycle step nodes place c.push.new.self.items below least (pushed ∙ turned) loop
