-- The level at hand, with its carries, and the levels above it.
use Rattle.std.proofs.Common.{◌≡◌, ◌+◌, ◌-◌, ◌/◌, ℕ, suc, ℤ, List, leb, length, take, drop, ap, sym, subst, subst₂, arith, rules}
use Rattle.std.proofs.lemmas.List.{take_rest}
use Rattle.std.proofs.lemmas.Result.{IfOk-weaker}
use Rattle.asp_base.specs.Literal.{Literal}
use Rattle.ground_program.specs.Radix.{rest_sum, divided}
use Rattle.ground_program.specs.Room.{network_measure, levels_measure}
use Rattle.rule_network.specs.Block.{Block, HasRoom, Defines, Adds, values}
use Rattle.rule_network.specs.Truths.{count}
use Rattle.weight_rules.specs.private.Kept.{ItemsKnown}
use Rattle.weight_rules.specs.private.Levels.{held, truths, IsPlan, Carries}
use Rattle.weight_rules.proofs.PlanLaws.{IsFirst, plan-first, first-measure}
use Rattle.weight_rules.proofs.RadixLaws.{bound-positive}
use Rattle.weight_rules.proofs.ReachLaws.{level-defines, level-enough, known-divided, room-left, adds-both}
use Rattle.weight_rules.proofs.reach.+reached.Goals as goal
use Rattle.weight_rules.proofs.reach.+reached.Goals.{After-number_of-tare, After-as_slice}

first : (t : ℕ) (c : After-number_of-tare t)
    → IsFirst c.args.radices.now c.args.tares.now c.args.items.now c.args.bound
    c.number_of-radix.result c.number_of-tare.result
first t c =
    plan-first c.args.radices.now c.args.tares.now c.args.items.now c.args.bound
    c.number_of-radix.result c.number_of-tare.result c.is_empty.result c.is_empty.ensures
    c.if-is_empty.false c.requires.plan (search rules) (search rules) c.number_of-radix.ensures
    c.number_of-tare.ensures

carries : (t : ℕ) (c : After-as_slice t)
    → Carries c.args.net.now c.level_carries.new.net c.args.items.now c.args.carries.now
    c.as_slice.result.now c.number_of-radix.result c.number_of-tare.result
carries t c =
    subst
    (λ lits. Carries c.args.net.now c.level_carries.new.net c.args.items.now c.args.carries.now lits
    c.number_of-radix.result c.number_of-tare.result) (sym c.as_slice.ensures)
    c.in_ok-next.ensures.carries

pub reached-requires : goal.reached-requires
reached-requires t c =
    let old : Block = c.args.net.now in
    let mid : Block = c.level_carries.new.net in
    let items : List (Literal × ℕ) = c.args.items.now in
    let bound : ℕ = c.args.bound in
    let b : ℕ = c.number_of-radix.result in
    let u : ℕ = c.number_of-tare.result in
    let radices : List ℤ = c.args.radices.now in
    let tares : List ℤ = c.args.tares.now in
    let at = goal.at.reached-requires t c in
    let first : IsFirst radices tares items bound b u = first t at.After-number_of-tare in
    let carries : Carries old mid items c.args.carries.now c.as_slice.result.now b u =
    carries t at.After-as_slice in
    let rs : List ℤ = take (length radices - 1) (drop 1 radices) in
    let er : rs ≡ drop 1 radices = take_rest radices 1 in
    let shorter : length rs ≡ length (drop 1 radices) = ap length er in
    let levels : length radices ≡ suc (length (drop 1 radices)) = first.levels in
    let plan : IsPlan rs (take (length tares - 1) (drop 1 tares)) c.divide.new.items
    ((bound + u) / b) =
    subst (λ xs. IsPlan rs (take (length tares - 1) (drop 1 tares)) xs ((bound + u) / b))
    (sym c.divide.ensures)
    (subst₂ (λ xs ys. IsPlan xs ys (divided b items) ((bound + u) / b)) (sym er)
    (sym (take_rest tares 1)) first.above) in
    let room : HasRoom
    (levels_measure (length rs) ((bound + u) / b) c.divide.new.items (length c.as_slice.result.now))
    mid =
    room-left (network_measure (rest_sum b items + length c.args.carries.now))
    (levels_measure (length rs) ((bound + u) / b) c.divide.new.items (length c.as_slice.result.now))
    old mid
    (subst (λ m. HasRoom m old)
    (first-measure radices tares rs items c.divide.new.items bound b u (length c.args.carries.now)
    (length c.as_slice.result.now) first er c.divide.ensures carries.entries) c.requires.room)
    c.in_ok-next.ensures.adds in (
      omega arith,
      (
        bound-positive b u bound first.whole c.requires.positive,
        (
          omega (arith, first.less, c.requires.small),
          (
            plan,
            (
              level-enough old mid items c.divide.new.items c.args.carries.now
                  c.as_slice.result.now b u bound first.some first.whole carries c.divide.ensures
                  c.requires.enough,
              (
                room,
                (
                  subst (ItemsKnown mid) (sym c.divide.ensures)
                      (known-divided old mid b items carries.grew c.requires.items),
                  carries.known,
                ),
              ),
            ),
          ),
        ),
      ),
    )

pub returns : goal.returns
returns t c =
    let old : Block = c.args.net.now in
    let mid : Block = c.level_carries.new.net in
    let new : Block = c.reached.new.net in
    let items : List (Literal × ℕ) = c.args.items.now in
    let above : List (Literal × ℕ) = c.divide.new.items in
    let low : List Literal = c.args.carries.now in
    let next : List Literal = c.as_slice.result.now in
    let bound : ℕ = c.args.bound in
    let b : ℕ = c.number_of-radix.result in
    let u : ℕ = c.number_of-tare.result in
    let rs : List ℤ = take (length c.args.radices.now - 1) (drop 1 c.args.radices.now) in
    let more : ℕ = levels_measure (length rs) ((bound + u) / b) above (length next) in
    let all : ℕ = levels_measure (length c.args.radices.now) bound items (length low) in
    let at = goal.at.returns t c in
    let first = first t at.After-number_of-tare in
    let carries = carries t at.After-as_slice in
    record {
      reaches = IfOk-weaker c.reached.result
          (λ lit. Defines mid new lit
          (λ X M. leb ((bound + u) / b) (held (truths mid X M above) + count (values mid X M next))))
          (λ lit. Defines old new lit
          (λ X M. leb bound (held (truths old X M items) + count (values old X M low))))
          (λ lit d. level-defines old mid new items above low next b u bound lit first.some
          first.whole c.requires.items carries c.divide.ensures d)
          c.reached.ensures.reaches;
      adds = IfOk-weaker c.reached.result (λ lit. Adds more more mid new)
          (λ lit. Adds all all old new)
          (λ lit a. adds-both (network_measure (rest_sum b items + length low)) more all old mid new
          (first-measure c.args.radices.now c.args.tares.now rs items above bound b u (length low)
          (length next) first (take_rest c.args.radices.now 1) c.divide.ensures carries.entries)
          c.in_ok-next.ensures.adds a)
          c.reached.ensures.adds;
    }
