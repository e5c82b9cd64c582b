-- What is left to show of `rules_of`.
use Rattle.std.proofs.Common.{◌≡◌, ◌<◌, true, ap, ◌∙◌, sym, subst, length, []}
use Rattle.std.specs.List.{AllByRecursion}
use Rattle.asp_base.specs.Sets.{members}
use Rattle.components.specs.Components as links
use Rattle.components.proofs.AtomLaws.{node-below}
use Rattle.components.specs.Divided.{part_of}
use Rattle.ground_program.specs.Facts.{IsProgram}
use Rattle.acyc_edges.specs.Encoding.{rules_of}
use Rattle.acyc_edges.specs.private.Tables.{HasHead}
use Rattle.acyc_edges.proofs.FitLaws.{rules-headed}
use Rattle.acyc_edges.proofs.TableLaws.{owned-rules}
use Rattle.acyc_edges.proofs.setting.Setting.rules_of.Goals as goal

pub returns-clause-are : goal.returns-clause-are
returns-clause-are c =
    let member : members c.self.inside.program.now.atoms c.args.atom ≡ true = ap (λ g. members g.program.atoms c.args.atom) c.self.view_is ∙ c.requires in
    let place : c.index_of-place.result ≡ links.node_of c.self.inside.program.now.atoms c.args.atom = c.index_of-place.ensures.index ∙ ap (λ g. links.node_of g.atoms c.args.atom) c.program.view_is in
    let low : links.node_of c.self.inside.program.now.atoms c.args.atom < length c.self.inside.program.now.atoms = node-below c.self.inside.program.now.atoms c.args.atom member in
    rw (c.as_slice-starts.ensures, c.as_slice.ensures, place) (c.self.invariant.tables.owners.each (links.node_of c.self.inside.program.now.atoms c.args.atom) low)
    ∙ (owned-rules c.self.inside.program.now c.known.ensures.facts (part_of c.self.inside.parts.now) [] c.args.atom member
    ∙ ap (λ g. rules_of g.program (part_of g.parts) [] c.args.atom) c.self.view_is)

pub returns-clause-heads : goal.returns-clause-heads
returns-clause-heads c =
    let member : members c.args.self.now.program.atoms c.args.atom ≡ true = c.requires in
    subst (AllByRecursion (HasHead c.args.self.now.program (part_of c.args.self.now.parts))) (sym (returns-clause-are c)) (rules-headed c.args.self.now.program (subst IsProgram (ap (λ g. g.program) c.self.view_is) c.known.ensures.facts) (part_of c.args.self.now.parts) c.args.atom member)
