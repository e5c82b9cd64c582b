-- What is left to show of `inner_of`.
use Rattle.std.proofs.Common.{◌≡◌, [], length, ap, ◌∙◌, sym, subst, arith}
use Rattle.std.proofs.lemmas.List.{get_or_read}
use Rattle.acyc_edges.specs.Encoding.{head_at, inner_at, rules_of}
use Rattle.acyc_edges.specs.private.Setting.{Given}
use Rattle.acyc_edges.specs.private.Tables.{HasHead}
use Rattle.acyc_edges.proofs.Inside.{member-in}
use Rattle.acyc_edges.proofs.TableLaws.{inner-is, inner-length}
use Rattle.acyc_edges.proofs.setting.Setting.inner_of.Goals as goal
use Rattle.asp_base.specs.Sets.{In}
use Rattle.components.specs.Divided.{part_of}

pub returns : goal.returns
returns c =
    let head : HasHead c.self.inside.program.now (part_of c.self.inside.parts.now) c.args.index = subst (λ (g : Given). HasHead g.program (part_of g.parts) c.args.index) (sym c.self.view_is) c.requires in
    let there : In c.args.index (rules_of c.self.inside.program.now (part_of c.self.inside.parts.now) [] (head_at c.self.inside.program.now (part_of c.self.inside.parts.now) [] c.args.index)) = member-in _ c.args.index head.2 in
    let long : length c.self.inside.tables.inner.items ≡ length c.self.inside.program.now.rules = inner-length c.self.inside.program.now (part_of c.self.inside.parts.now) c.self.inside.tables.inner.items c.self.invariant.tables.inner in
    let low = head.0 in
    c.as_slice.ensures
    ∙ (get_or_read c.self.inside.tables.inner.items c.args.index c.index.result.now (omega arith) c.index.ensures []
    ∙ (inner-is c.self.inside.program.now (part_of c.self.inside.parts.now) [] c.self.inside.tables.inner.items c.args.index (head_at c.self.inside.program.now (part_of c.self.inside.parts.now) [] c.args.index) c.self.invariant.tables.inner there
    ∙ ap (λ g. inner_at g.program (part_of g.parts) [] c.args.index) c.self.view_is))
