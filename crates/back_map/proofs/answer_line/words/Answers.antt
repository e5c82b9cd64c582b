use Rattle.std.proofs.Common.{sym}
use Rattle.asp_scan.specs.Tokens.{tokens}
use Rattle.back_map.specs.Read.{with_numbers, with_status}
use Rattle.back_map.specs.private.Reading.{with_words}
use Rattle.back_map.proofs.LineSteps.{words-v, words-status, words-bad}
use Rattle.back_map.proofs.Steps.{ok-as, err-as}
use Rattle.back_map.proofs.answer_line.words.Goals as goal

pub returns-then-is_v-clause-ok : goal.returns-then-is_v-clause-ok
returns-then-is_v-clause-ok c =
    ok-as (with_words (tokens c.args.scan.now.left)) (λ n. with_numbers n (tokens c.next_word.new.self.left)) c.args.hearing.now c.numbers.new.hearing c.numbers.result
    (words-v c.args.scan.now.left c.in-Some.first.now c.next_word.new.self.left c.in-Some.ensures.word (sym c.if-is_o.ensures) c.args.hearing.now (sym c.if-is_v.ensures)) c.numbers.ensures.ok

pub returns-then-is_v-clause-err : goal.returns-then-is_v-clause-err
returns-then-is_v-clause-err c =
    err-as (with_words (tokens c.args.scan.now.left)) (λ n. with_numbers n (tokens c.next_word.new.self.left)) c.args.hearing.now c.numbers.result
    (words-v c.args.scan.now.left c.in-Some.first.now c.next_word.new.self.left c.in-Some.ensures.word (sym c.if-is_o.ensures) c.args.hearing.now (sym c.if-is_v.ensures)) c.numbers.ensures.err

pub returns-in-Some-line_status-clause-ok : goal.returns-in-Some-line_status-clause-ok
returns-in-Some-line_status-clause-ok c =
    ok-as (with_words (tokens c.args.scan.now.left)) (λ n. with_status c.in-Some-line_status.found) c.args.hearing.now c.hear_status.new.self c.hear_status.result
    (words-status c.args.scan.now.left c.in-Some.first.now c.next_word.new.self.left c.in-Some.ensures.word (sym c.if-is_o.ensures) c.args.hearing.now c.in-Some-line_status.found c.in-Some-line_status.ensures.status)
    c.hear_status.ensures.ok

pub returns-in-Some-line_status-clause-err : goal.returns-in-Some-line_status-clause-err
returns-in-Some-line_status-clause-err c =
    err-as (with_words (tokens c.args.scan.now.left)) (λ n. with_status c.in-Some-line_status.found) c.args.hearing.now c.hear_status.result
    (words-status c.args.scan.now.left c.in-Some.first.now c.next_word.new.self.left c.in-Some.ensures.word (sym c.if-is_o.ensures) c.args.hearing.now c.in-Some-line_status.found c.in-Some-line_status.ensures.status)
    c.hear_status.ensures.err

pub returns-in-None-clause-err : goal.returns-in-None-clause-err
returns-in-None-clause-err c =
    words-bad c.args.scan.now.left c.in-Some.first.now c.next_word.new.self.left c.in-Some.ensures.word (sym c.if-is_o.ensures) c.args.hearing.now (sym c.if-is_v.ensures) c.in-None.ensures.status c.requires.no_number
