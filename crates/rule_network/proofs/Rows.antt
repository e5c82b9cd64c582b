-- Small blocks and lists of truth values, by computation.
use Rattle.std.proofs.Common.{◌≡◌, refl, true, false, [], ◌∷◌, None}
use Rattle.asp_base.specs.Literal.{Pos, Neg}
use Rattle.asp_base.specs.Sets.{members}
use Rattle.rule_network.specs.Block.{Block, empty_block, next_atom, with_cell, block_size, closure, value, values}
use Rattle.rule_network.specs.Truths.{count, ones}

-- a program with the atoms 1 and 3
abbrev before : Block
before = empty_block (record { atoms = 1 ∷ 3 ∷ []; given = [] }) None

before_next : next_atom before ≡ 2
before_next = refl

-- 2 :- 1, not 3.
abbrev both : Block
both = with_cell ((Pos 1 ∷ Neg 3 ∷ []) ∷ []) before

-- 4 :- 2. 4 :- 3.
abbrev either : Block
either = with_cell ((Pos 2 ∷ []) ∷ (Pos 3 ∷ []) ∷ []) both

either_made : either.made ≡ 2 ∷ 4 ∷ []
either_made = refl

either_size : block_size either ≡ 9
either_size = refl

of_1 : values either (members (1 ∷ [])) (members (1 ∷ [])) (Pos 2 ∷ Pos 4 ∷ Neg 3 ∷ [])
    ≡ true ∷ true ∷ true ∷ []
unfolding value closure
of_1 = refl

of_3 : values either (members (3 ∷ [])) (members (3 ∷ [])) (Pos 2 ∷ Pos 4 ∷ Neg 3 ∷ [])
    ≡ false ∷ true ∷ false ∷ []
unfolding value closure
of_3 = refl

two_of_3 : ones (count (false ∷ true ∷ true ∷ [])) 3 ≡ true ∷ true ∷ false ∷ []
two_of_3 = refl
