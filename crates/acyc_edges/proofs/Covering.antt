-- An encoding covers the program where each atom of a cyclic component that holds is backed.
use Rattle.std.proofs.Common.{◌≡◌, ℕ, true, List}
use Rattle.asp_base.specs.Sets.{Set}
use Rattle.ground_program.specs.Facts.{IsProgram}
use Rattle.ground_program.specs.Faithful.{Covers}
use Rattle.ground_program.specs.Ground.{Ground}
use Rattle.ground_program.specs.Normal.{AreNormal}
use Rattle.ground_program.specs.Stable.{Supported}
use Rattle.acyc_edges.specs.Encoding.{made}
use Rattle.acyc_edges.specs.declared.name.Name.{Name}
use Rattle.acyc_edges.specs.private.Parts.{AreParts}
use Rattle.acyc_edges.specs.private.Sources.{Cyc, AreNames}
use Rattle.acyc_edges.proofs.Covered.{Backing, cut-stable, cut-names, cut-costs}
use Rattle.acyc_edges.proofs.EdgeLaws.{edges-acyclic}
use Rattle.acyc_edges.proofs.Reached as reached
use Rattle.acyc_edges.proofs.Tight.{made-stable, stable-supported}

module _ (P : Ground) (program : IsProgram P) (normal : AreNormal P.rules) (part : ℕ → ℕ) (parts : List ℕ) (areparts : AreParts P.rules part parts) (names : List Name) (are : AreNames P part parts names) where
  pub made-covers : ((M : Set) → Supported (made P part parts names) M → (a : ℕ) → Cyc P part parts a → M a ≡ true → Backing P part parts names M a) → Covers P (made P part parts names)
  made-covers backing = record {
    stable = λ M s. let t : Supported (made P part parts names) M = stable-supported P program normal part parts areparts names are M s in
        cut-stable P program normal part parts areparts names are M t s.acyclic (backing M t);
    names = λ M s. let t : Supported (made P part parts names) M = stable-supported P program normal part parts areparts names are M s in
        cut-names P program normal part parts areparts names are M t s.acyclic (backing M t);
    costs = λ M s. let t : Supported (made P part parts names) M = stable-supported P program normal part parts areparts names are M s in
        cut-costs P program normal part parts areparts names are M t s.acyclic (backing M t);
    onto = λ N s. (
      reached.M P program normal part parts names are N s,
      made-stable P program normal part parts areparts names are (reached.M P program normal part parts names are N s) (reached.M-supported P program normal part parts names are N s) (edges-acyclic P program normal part parts names are N s),
      reached.M-cut P program normal part parts names are N s,
    );
  }
