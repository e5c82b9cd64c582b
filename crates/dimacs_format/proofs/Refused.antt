-- A refusal names a line and a fault.
use Rattle.std.proofs.Common.{◌≡◌, ◌∙◌, sym, ap, subst, ℕ}
use Rattle.asp_base.specs.Faults.{fault, Refuses}
use Rattle.asp_base.specs.declared.faults.Refusal.{Refusal}
use Rattle.asp_base.specs.declared.faults.Refusal.TheVariants.{At}
use Rattle.dimacs_format.specs.Read.{Reading}
use Rattle.dimacs_format.specs.declared.kind.FormulaKind.{FormulaKind}

pub refuses-at : {A : Type 0} (read : Reading A) (refusal : Refusal FormulaKind) (line at : ℕ) (kind : FormulaKind) → refusal ≡ At at kind → at ≡ line → read ≡ fault line kind → Refuses read refusal
refuses-at read refusal line at kind is same h = subst (Refuses read) (sym (is ∙ ap (λ n. At n kind) same)) h

-- what is refused is refused under another name of what is read
pub refuses-same : {A : Type 0} (read other : Reading A) (refusal : Refusal FormulaKind) → read ≡ other → Refuses other refusal → Refuses read refusal
refuses-same read other refusal e h = subst (λ r. Refuses r refusal) (sym e) h
