-- The text of a formula in each of its forms.
use Rattle.std.specs.Prelude.{ℕ, List, ⊤}
use Rattle.std.specs.List.{AllByRecursion}
use Rattle.clause_store.specs.Clauses.{Clauses}
use Rattle.dimacs_format.specs.Read.{HasNodes}
use Rattle.dimacs_format.specs.Written.{cnf_text, ecnf_text, wcnf_text}
use Rattle.dimacs_format.specs.declared.append.Format.{Format}
use Rattle.dimacs_format.specs.declared.append.Format.TheVariants.{Cnf, Ecnf, Wcnf}

abbrev pub text_as : Format → Clauses → List ℕ
text_as Cnf F = cnf_text F
text_as Ecnf F = ecnf_text F
text_as Wcnf F = wcnf_text F

-- where edges are written, their ends are nodes
abbrev pub HasNodesAs : Format → Clauses → Type 0
HasNodesAs Cnf F = ⊤
HasNodesAs Ecnf F = AllByRecursion HasNodes F.edges
HasNodesAs Wcnf F = ⊤
