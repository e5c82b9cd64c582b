-- The edges whose literal is true are a graph.
use Rattle.std.proofs.Common.{◌≡◌, refl, sym, ◌∙◌, ap, ℤ, Bool, true, false, cond, ◌&&◌, ◌||◌, List, [], ◌∷◌, map}
use mathlib.Core.Path.{fun_ext}
use Rattle.std.specs.List.{filter}
use Rattle.std.specs.Ordering.{int_eq}
use Rattle.std.proofs.lemmas.Bool.{and_right}
use Rattle.asp_base.specs.Sets.{Set}
use Rattle.asp_base.proofs.Bools.{and_true}
use Rattle.graph_cycles.specs.Cycle.{leads}
use Rattle.clause_store.specs.Models.{is_true, linked}
use Rattle.clause_store.specs.declared.formula.LitEdge.{LitEdge}
use Rattle.clause_store.specs.private.Linking.{ends_of}

leads-linked : (edges : List LitEdge) (A : Set) (u v : ℤ) → leads (ends_of edges A) u v ≡ linked edges A u v
leads-linked [] A u v = refl
leads-linked (edge ∷ edges) A u v =
    go (is_true edge.lit A) refl ∙ ap (λ b. (int_eq edge.from u && (int_eq edge.to v && is_true edge.lit A)) || b) (leads-linked edges A u v)
  where
    go : (b : Bool) → is_true edge.lit A ≡ b →
        leads (map (λ (e : LitEdge). (e.from, e.to)) (cond b (edge ∷ filter (λ e. is_true e.lit A) edges) (filter (λ e. is_true e.lit A) edges))) u v
        ≡ ((int_eq edge.from u && (int_eq edge.to v && is_true edge.lit A)) || leads (ends_of edges A) u v)
    go true is = ap (λ b. b || leads (ends_of edges A) u v)
        (ap (λ b. int_eq edge.from u && b) (sym (ap (λ b. int_eq edge.to v && b) is ∙ and_true (int_eq edge.to v))))
    go false is = ap (λ b. b || leads (ends_of edges A) u v)
        (sym (and_right (int_eq edge.from u) (int_eq edge.to v && is_true edge.lit A) (and_right (int_eq edge.to v) (is_true edge.lit A) is)))

pub graph-linked : (edges : List LitEdge) (A : Set) → leads (ends_of edges A) ≡ linked edges A
graph-linked edges A = fun_ext (λ u. fun_ext (λ v. leads-linked edges A u v))
