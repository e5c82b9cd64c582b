-- What the fields of a reader of an answer stand for.
use Rattle.back_map.specs.private.Kept.{Kept}
use Rattle.back_map.specs.declared.hearing.Hearing.TheInside.{Inside}

abbrev pub kept_of : Inside → Kept
kept_of h = record {
  vars = h.vars;
  status = h.status;
  bare = h.bare;
  values = h.values.items;
  ended = h.ended;
}
