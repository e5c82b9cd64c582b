use Rattle.std.proofs.Common.{rules, ◌≡◌, true}
use Rattle.asp_tools.specs.NormalAnswers.{is_writable_as}
use Rattle.asp_tools.proofs.NormalLaws.{normal_replied}
use Rattle.asp_tools.proofs.lp2normal.reply_on.Goals as goal

pub returns-in-Ok : goal.returns-in-Ok
returns-in-Ok c =
    let writable : is_writable_as c.args.format c.args.program ≡ true = search rules in
    normal_replied c.args.format c.args.program c.in-Ok.made writable c.in-Ok.ensures.built c.in-Ok.ensures.normal c.in-Ok.ensures.faithful
    c.in-Ok.ensures.facts c.in-Ok.ensures.atoms c.in-Ok.ensures.size c.in-Ok.ensures.same
    c.text_of.result c.text_of.ensures.answer c.text_of.ensures.text c.text_of.ensures.said
