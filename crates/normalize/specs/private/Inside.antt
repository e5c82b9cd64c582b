-- What the fields of normalization under way stand for.
use Rattle.normalize.specs.private.Stage.{Stage}
use Rattle.normalize.specs.declared.work.Work.TheInside.{Inside}

abbrev pub stage_of : Inside → Stage
stage_of w = record { rules = w.rules.items; supply = w.fresh; pairs = w.complements }
