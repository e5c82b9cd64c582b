-- The atoms that occur in the parts of a program, and their variables.
use Rattle.std.specs.Prelude.{ℕ, ℤ, List, [], ◌∷◌, ◌++◌, map}
use Rattle.asp_base.specs.Literal.{Literal, Pos, Neg, atom_of}
use Rattle.std.specs.List.{flat_map}
use Rattle.rising_numbers.specs.Rising.{place}
use Rattle.ground_program.specs.Ground.{Ground}
use Rattle.ground_program.specs.declared.program.Head.{Head}
use Rattle.ground_program.specs.declared.program.Head.TheVariants.{Nothing, One, Choice}
use Rattle.ground_program.specs.declared.program.Body.{Body}
use Rattle.ground_program.specs.declared.program.Body.TheVariants.{All, Sum}
use Rattle.ground_program.specs.declared.program.Rule.{Rule}

abbrev pub atoms_of_literals : List Literal → List ℕ
atoms_of_literals lits = map atom_of lits

abbrev pub atoms_of_items : List (Literal × ℤ) → List ℕ
atoms_of_items items = map (λ item. atom_of item.0) items

abbrev pub atoms_of_head : Head → List ℕ
atoms_of_head Nothing = []
atoms_of_head (One a) = a ∷ []
atoms_of_head (Choice as_) = as_

abbrev pub atoms_of_body : Body → List ℕ
atoms_of_body (All lits) = atoms_of_literals lits
atoms_of_body (Sum bound items) = atoms_of_items items

abbrev pub atoms_of_rule : Rule → List ℕ
atoms_of_rule rule = atoms_of_head rule.head ++ atoms_of_body rule.body

-- The literal over variables: the variable of an atom is its place among a program's atoms, from 1.
abbrev pub over_variables : List ℕ → Literal → Literal
over_variables atoms (Pos a) = Pos (place atoms a)
over_variables atoms (Neg a) = Neg (place atoms a)

-- every atom that occurs in a part of a program
abbrev pub atoms_of_parts : Ground → List ℕ
atoms_of_parts P =
    flat_map atoms_of_rule P.rules
    ++ (atoms_of_literals P.required
    ++ (flat_map (λ edge. atoms_of_literals edge.condition) P.edges
    ++ (flat_map (λ level. atoms_of_items level.items) P.levels
    ++ flat_map (λ show. atoms_of_literals show.condition) P.shows)))
