-- Moves in flight where there are none, and that the map's list has room for the pairs of each.
use Rattle.std.proofs.Common.{◌≢◌, ap, sym, subst, ◌≤◌, List, [], ◌∷◌, map, length, get_or, arith}
use Rattle.std.specs.Prelude.{All, AllPairs}
use Rattle.std.proofs.lemmas.List.Elements.{All-nil, All-cons, All-weaker}
use Rattle.std.proofs.lemmas.List.{length-map, length-append}
use Rattle.geometry_map.specs.DefectMap.{HaveOwnSpares, place_of}
use Rattle.geometry_map.specs.declared.pair.Pair.{Pair}
use Rattle.geometry_map.specs.Laws.{BlocksLieOnUserSectors, ChainsOfFreeSparesFit}
use Rattle.move_table.specs.declared.flight.Flight.{Flight}
use Rattle.move_table.specs.Table.{taken}
use Rattle.drive_scene.specs.Flights.{IsFlight, AreApart}
use Rattle.drive_scene.specs.InFlight.{HasCome, HaveOwnOwners, NoFlightsAreValid, FlightsFit}
use Rattle.drive_scene.proofs.Tables.{within_map}
use Rattle.drive_scene.proofs.MoveLists.{IsEarlier}

-- where no move is in flight
pub no_flights : NoFlightsAreValid
no_flights s size valid none =
    let each : (P : Flight → Type 0) → All P s.back.flights = λ P. subst (λ (fs : List Flight). All P fs) (sym none) (All-nil P) in
    let pairs : (R : Flight → Flight → Type 0) → AllPairs R s.back.flights =
    λ R. subst (λ (fs : List Flight). AllPairs R fs) (sym none) (λ i k d below within. absurd (omega arith)) in
    record {
      size = size;
      valid = valid;
      in_flight = record {
        flights = each (IsFlight s);
        ascend = pairs IsEarlier;
        apart = pairs AreApart;
        owners = pairs HaveOwnOwners;
        chains = each (λ f. AllPairs HaveOwnSpares f.job.chain);
        came = each (λ f. HasCome s.hist.arrived f.job.owner);
        room = omega (arith, valid.grown.few, ap (λ (fs : List Flight). length (taken fs)) none);
      };
    }

-- a chain is no longer than all are
chains_few : (flights : List Flight) → All (λ f. length f.job.chain ≤ length (taken flights)) flights
chains_few [] = All-nil (λ (f : Flight). length f.job.chain ≤ 0)
chains_few (f ∷ fs) =
    let split = length-append (map (λ (pair : Pair). pair.new) f.job.chain) (taken fs) in
    let same = length-map f.job.chain (λ (pair : Pair). pair.new) in
    All-cons (λ (g : Flight). length g.job.chain ≤ length (taken (f ∷ fs))) f fs (omega (arith, split, same))
    (All-weaker (λ (g : Flight). length g.job.chain ≤ length (taken fs)) (λ (g : Flight). length g.job.chain ≤ length (taken (f ∷ fs)))
    (λ g few. omega (arith, split, few)) fs (chains_few fs))

-- the pairs of a move fit the map's list
pub flights_fit : BlocksLieOnUserSectors → ChainsOfFreeSparesFit → FlightsFit
flights_fit on_user fit s has k d within =
    let f : Flight = get_or s.back.flights k d in
    let is : IsFlight s f = has.in_flight.flights k d within in
    let user = on_user s.map has.valid f.job.b (within_map s f.job.b has.size is.below) in
    fit s.map has.valid (place_of s.map f.job.b) user.0 user.1 f.job.chain is.chain is.spares (has.in_flight.chains k d within)
    (omega (arith, has.in_flight.room, chains_few s.back.flights k d within))
