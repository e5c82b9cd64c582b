-- What the steps of the reader say of the definition.
use Rattle.std.specs.Prelude.{ℕ, ℤ, List, [], ◌∷◌, Option, Some, None, Result, Ok}
use Rattle.asp_base.specs.Literal.{Literal, Pos, Neg}
use Rattle.ground_program.specs.Draft.{Draft, with_required, with_show}
use Rattle.ground_program.specs.declared.reading.ReadKind.{ReadKind}
use Rattle.asp_base.specs.Faults.{◌>>=◌}
use Rattle.statement_fields.specs.Fields.{Reading, atom, body_weight, ended}
use Rattle.smodels_format.specs.Read.{Entry, Adds, Ends, adds, unless_zero, symbol_name}
use Rattle.smodels_format.specs.declared.sign.Sign.{Sign}
use Rattle.smodels_format.specs.declared.sign.Sign.TheVariants.{Negative, Positive}
use Rattle.smodels_format.specs.declared.rule.RuleLine.{RuleLine}
use Rattle.smodels_format.specs.declared.rule.RuleLine.TheVariants.{Rule, Minimize, End}
use Rattle.smodels_format.specs.declared.entry.Entries.{Entries}
use Rattle.smodels_format.specs.declared.entry.Entries.TheVariants.{Symbols, Required}
use Rattle.smodels_format.specs.declared.entry.EntryLine.{EntryLine}
use Rattle.smodels_format.specs.declared.entry.EntryLine.TheVariants as lines

-- ---- literals and weights

-- the literal of an atom
abbrev pub signed : Sign → ℕ → Literal
signed Negative a = Neg a
signed Positive a = Pos a

-- a literal that is written as its atom
abbrev pub signed_atom : Sign → List ℕ → Reading Literal
signed_atom sign line = do
  a ← atom line
  Ok (signed sign a.0, a.1)

-- a weight for each literal
abbrev pub weights_of : List Literal → List ℕ → Reading (List (Literal × ℤ))
weights_of [] line = Ok ([], line)
weights_of (l ∷ lits) line = do
  w ← body_weight line
  rest ← weights_of lits w.1
  Ok ((l, w.0) ∷ rest.0, rest.1)

-- ---- lines

-- what a line of the rules was
abbrev pub rule_said : RuleLine → Draft → Entry
rule_said Rule draft = Adds draft
rule_said Minimize draft = Adds draft
rule_said End draft = Ends

-- how many levels it added
abbrev pub levels_added : RuleLine → ℕ
levels_added Rule = 0
levels_added Minimize = 1
levels_added End = 0

-- what a line of another part was
abbrev pub said : EntryLine → Draft → Entry
said lines.Entry draft = Adds draft
said lines.End draft = Ends

-- an entry that begins with an atom
abbrev pub behind_atom : (ℕ × List ℕ → Result Draft ReadKind) → List ℕ → Result Draft ReadKind
behind_atom entry line = atom line >>= entry

-- what an entry says whose atom was read, or the 0 that ends its part
abbrev pub begun : Option ℕ → List ℕ → (ℕ × List ℕ → Result Draft ReadKind) → Result Entry ReadKind
begun None line entry = Ok Ends
begun (Some a) line entry = adds (entry (a, line))

-- what stands behind the atom of an entry
abbrev pub symbol_behind : Draft → ℕ × List ℕ → Result Draft ReadKind
symbol_behind draft a = do
  name ← symbol_name a.1
  Ok (with_show (record { name = name; condition = Pos a.0 ∷ [] }) draft)

abbrev pub required_behind : Sign → Draft → ℕ × List ℕ → Result Draft ReadKind
required_behind sign draft a = ended (with_required (signed sign a.0 ∷ []) draft) a.1

abbrev pub behind : Entries → Draft → ℕ × List ℕ → Result Draft ReadKind
behind Symbols = symbol_behind
behind (Required sign) = required_behind sign

-- a line of a part whose entries begin with an atom
abbrev pub entry_of : Entries → Draft → List ℕ → Result Entry ReadKind
entry_of entries draft line = unless_zero line (behind_atom (behind entries draft) line)
