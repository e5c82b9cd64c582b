use Rattle.std.proofs.Common.{◌≡◌, ◌++◌, take, drop}
use Rattle.asp_scan.specs.Tokens.{token_front, after_token}
use Rattle.asp_scan.proofs.bytes.split_token.Given as goal

abbrev pub invariant-loop-i : goal.invariant-loop-i
invariant-loop-i l = record {
  front : token_front l.text ≡ take l.i l.text ++ token_front (drop l.i l.text);
  after : after_token l.text ≡ after_token (drop l.i l.text);
}
