-- The definitions on small texts.
use Rattle.std.specs.Prelude.{◌≡◌, refl, pos, negsuc, ◌^◌, ◌-◌, true, false, [], ◌∷◌, codes, Some, None, Ok, Err}
use Rattle.asp_scan.specs.Lines.{lines_of, end_line}
use Rattle.asp_scan.specs.Tokens.{token_at, tokens, number_at, bytes_from}
use Rattle.asp_scan.specs.Words.{is_line, is_word}
use Rattle.asp_scan.specs.declared.scan.ScanFault.TheVariants.{Missing, BadNumber, TooWide}

-- a carriage return before the end of a line goes, one elsewhere stays, and blank lines count
lines : lines_of (codes "a\r\n \t\n\n\r\r\nb\rc") ≡ record { number = 1; bytes = codes "a" } ∷ record { number = 4; bytes = codes "\r" } ∷ record { number = 5; bytes = codes "b\rc" } ∷ []
lines = refl

no_lines : lines_of [] ≡ []
no_lines = refl

end : end_line (codes "a\n\n \n") ≡ 3
end = refl

end_of_piece : end_line (codes "a\nb") ≡ 2
end_of_piece = refl

end_of_nothing : end_line [] ≡ 1
end_of_nothing = refl

words : tokens (codes " a\tb  c ") ≡ codes "a" ∷ codes "b" ∷ codes "c" ∷ []
words = refl

no_word : token_at (codes " \t") ≡ None
no_word = refl

numeral : number_at (codes " -007 8") ≡ Ok (negsuc 6, codes " 8")
numeral = refl

minus_zero : number_at (codes "-0") ≡ Ok (pos 0, [])
minus_zero = refl

many_zeros : number_at (codes "00000000000000000000000000000001") ≡ Ok (pos 1, [])
many_zeros = refl

least : number_at (codes "-9223372036854775808") ≡ Ok (negsuc (2 ^ 63 - 1), [])
least = refl

below_least : number_at (codes "-9223372036854775809") ≡ Err TooWide
below_least = refl

above_greatest : number_at (codes "9223372036854775808") ≡ Err TooWide
above_greatest = refl

no_digits : number_at (codes "-") ≡ Err BadNumber
no_digits = refl

plus : number_at (codes "+1") ≡ Err BadNumber
plus = refl

-- the fault of the form comes before that of the value
long_and_bad : number_at (codes "99999999999999999999x") ≡ Err BadNumber
long_and_bad = refl

missing : number_at (codes "  ") ≡ Err Missing
missing = refl

name : bytes_from 3 (codes "  b c") ≡ Some (codes " b ", codes "c")
name = refl

name_of_nothing : bytes_from 0 (codes " ") ≡ Some ([], [])
name_of_nothing = refl

short_name : bytes_from 3 (codes " ab") ≡ None
short_name = refl

no_blank : bytes_from 0 (codes "ab") ≡ None
no_blank = refl

is_no_line : is_line (codes "a\r") ≡ false
is_no_line = refl

is_a_line : is_line (codes "a\rb ") ≡ true
is_a_line = refl

is_no_word : is_word [] ≡ false
is_no_word = refl
