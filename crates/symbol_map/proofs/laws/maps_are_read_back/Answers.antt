use Rattle.symbol_map.proofs.MapRoundTrip.{map-read}
use Rattle.symbol_map.proofs.laws.maps_are_read_back.Goals as goal

pub returns : goal.returns
returns c = map-read
