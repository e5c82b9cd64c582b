use Rattle.std.proofs.Common.{◌≡◌, length, arith}
use Rattle.graph_cycles.proofs.Rounds.{round-close, round-pass, round-open, round-back}
use Rattle.graph_cycles.proofs.descent.Descent.advance.Goals as goal

pub returns-in-Back-clause-found : goal.returns-in-Back-clause-found
returns-in-Back-clause-found c =
    let many : c.len-last.result ≡ length c.args.self.now.path.items = omega arith in
    round-back _ _ _ c.requires.searching c.requires.path _ many _ c.index-step.ensures c.in-Back.place c.in-Back.ensures

pub returns-in-Ended-clause-searching : goal.returns-in-Ended-clause-searching
returns-in-Ended-clause-searching c = λ _.
    let many : c.len-last.result ≡ length c.args.self.now.path.items = omega arith in
    let round = round-close _ _ _ c.requires.searching c.requires.path _ many _ c.index-step.ensures c.in-Ended.ensures in
    rw (c.close.ensures.marks, c.close.ensures.path) round.0

pub returns-in-Ended-clause-falls : goal.returns-in-Ended-clause-falls
returns-in-Ended-clause-falls c = λ _.
    let many : c.len-last.result ≡ length c.args.self.now.path.items = omega arith in
    let round = round-close _ _ _ c.requires.searching c.requires.path _ many _ c.index-step.ensures c.in-Ended.ensures in
    rw (c.close.ensures.marks, c.close.ensures.path) round.1

pub returns-in-Past-clause-searching : goal.returns-in-Past-clause-searching
returns-in-Past-clause-searching c = λ _.
    let many : c.len-last.result ≡ length c.args.self.now.path.items = omega arith in
    let round = round-pass _ _ _ c.requires.searching c.requires.path _ many _ c.index-step.ensures c.in-Past.ensures in
    rw (c.pass.ensures.marks, c.pass.ensures.path) round.0

pub returns-in_ok-open-in-New-clause-searching : goal.returns-in_ok-open-in-New-clause-searching
returns-in_ok-open-in-New-clause-searching c = λ _.
    let many : c.len-last.result ≡ length c.args.self.now.path.items = omega arith in
    let round = round-open _ _ _ c.requires.searching c.requires.path _ many _ c.index-step.ensures c.in-New.start c.in-New.ensures in
    rw (c.in_ok-open-in-New.ensures.marks, c.in_ok-open-in-New.ensures.path) round.0
