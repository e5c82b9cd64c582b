-- What is true of the names that are left is true of all.
use Rattle.std.proofs.Common.{◌≡◌, drop}
use Rattle.std.specs.List.{list_all}
use Rattle.smodels_format.specs.Writable.{is_writable_name}
use Rattle.smodels_format.proofs.writability.names_fit.Given as goal

abbrev pub invariant-loop-show : goal.invariant-loop-show
invariant-loop-show l = list_all (λ show. is_writable_name show.name) (drop l.show-index l.shows) ≡ list_all (λ show. is_writable_name show.name) l.shows
