use Rattle.std.proofs.Common.{rules, sym}
use Rattle.std.specs.Prelude.{IsNone}
use Rattle.back_map.proofs.StatusWords.{two-words, three-words, more-words}
use Rattle.back_map.proofs.status.line_status.Goals as goal

pub returns-in_default-next_word-clause-status : goal.returns-in_default-next_word-clause-status
returns-in_default-next_word-clause-status c =
    let none : IsNone c.next_word-2.result = search rules in
    two-words c.args.first.now c.args.scan.now.left c.in-Some.second.now c.next_word.new.self.left c.of_two.result c.in-Some.ensures.word (c.next_word-2.ensures.none none).0 c.of_two.ensures

pub returns-then-end_of_line-clause-status : goal.returns-then-end_of_line-clause-status
returns-then-end_of_line-clause-status c =
    three-words c.args.first.now c.args.scan.now.left c.in-Some.second.now c.next_word.new.self.left c.in-Some-next_word.third.now c.next_word-2.new.self.left c.of_three.result
    c.in-Some.ensures.word c.in-Some-next_word.ensures.word c.if-end_of_line.ensures c.of_three.ensures

pub returns-else-end_of_line-clause-status : goal.returns-else-end_of_line-clause-status
returns-else-end_of_line-clause-status c =
    sym (more-words c.args.first.now c.args.scan.now.left c.in-Some.second.now c.next_word.new.self.left c.in-Some-next_word.third.now c.next_word-2.new.self.left
    c.in-Some.ensures.word c.in-Some-next_word.ensures.word c.if-end_of_line.ensures)
