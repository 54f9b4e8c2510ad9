-- Turns in which damage comes, and in which minutes pass.
use Rattle.std.proofs.Common.{◌≡◌, ℕ, ◌+◌, ◌<◌, Bool, true, false, cond, List, [], ◌∷◌, ◌++◌, None, refl, sym, ap, ◌∙◌, subst, arith}
use Rattle.std.specs.Prelude.{◌^◌, min}
use Rattle.std.proofs.lemmas.List.Sums.{fold-append}
use Rattle.platter_model.specs.declared.damage.Damage.{Damage}
use Rattle.platter_model.specs.declared.op.Op.{Op}
use Rattle.platter_model.specs.declared.op.Op.TheVariants.{Damaged}
use Rattle.platter_model.specs.declared.world.World.{World}
use Rattle.platter_model.specs.declared.world.World.TheVariants as world
use Rattle.platter_model.specs.State.{with_op}
use Rattle.platter_model.specs.Sector.{faulty_after}
use Rattle.platter_model.specs.TrueLog.{supply_after, powered, is_unpowered, is_off}
use Rattle.geometry_map.specs.Size.{total_of}
use Rattle.geometry_map.specs.DefectMap.{DefectMap}
use Rattle.sector_store.specs.Stored.{KeepsBlocks}
use Rattle.sector_store.specs.Maps.{MayBeRecovered}
use Rattle.sector_store.specs.State.{Contained, IsStore}
use Rattle.sector_store.specs.Happening.{after_world, MayHappen}
use Rattle.block_machine.specs.declared.entry.Entry.{Entry}
use Rattle.block_machine.specs.declared.entry.Entry.TheVariants.{Tick}
use Rattle.block_machine.specs.declared.turn.Label.TheVariants as label
use Rattle.block_machine.specs.Scan.{Scan, minutes_at_most, scan_after}
use Rattle.history_replay.specs.declared.known.Known.{Known}
use Rattle.drive_core.specs.declared.accepted.Accepted.{Accepted}
use Rattle.drive_core.specs.declared.server.Server.{Server}
use Rattle.drive_scene.specs.Scene.{Scene, beat}
use Rattle.drive_scene.specs.After.{scene_after, background_after}
use Rattle.drive_scene.proofs.DestageTurns.{quiet_back}
use Rattle.drive_core.specs.Accepting.{accepted_of}
use Rattle.drive_scene.specs.GoodTurn.{IsStood, IsAllowed}
use Rattle.drive_scene.specs.Present.{IsPresentMap}
use Rattle.drive_scene.specs.Laws.{StillTurnsAreGood, DamageTurnsAreGood}
use Rattle.drive_core.specs.Fits.{Fits, HasOps, IsCached, KnowsHistory}
use Rattle.drive_core.specs.Moves.{Moves}
use Rattle.drive_core.specs.Served.{IsServedWorld}
use Rattle.drive_scene.proofs.Tries.{no_strays-before}
use Rattle.drive_scene.proofs.Uncommitted.{stays_flightless}
use Rattle.drive_core.proofs.Flightless.{apart_alone}
use Rattle.drive_core.proofs.Elsewhere.{staged-alike}
use Rattle.drive_core.proofs.Parts.{IsGotOnly, cached_got, quiet_got}
use Rattle.drive_core.proofs.Fitting.{known-quiet}
use Rattle.drive_core.proofs.Closing.{has_ops, present_after}
use Rattle.drive_core.proofs.Unmoved.{still_stands, has_same, none_added, standing}
use Rattle.drive_scene.specs.Still.{IsStanding}

-- a damage of what is served may happen to the store
pub may_happen : (s : Scene) (d : Server) (x : Damage) → Fits s d → d.store.platter.sectors ≡ total_of d.store.map.size → IsServedWorld s.size (world.Damage x)
    → MayHappen d.store.platter (world.Damage x)
may_happen s d x fits sectors served =
    let size : d.store.platter.sectors ≡ total_of s.size = sectors ∙ (ap (λ (n : DefectMap). total_of n.size) fits.store.map ∙ ap total_of fits.size) in
    (omega (arith, served.0), served.1)

-- the scene after a turn of the world: there are more operations and entries, and the scan went on
abbrev with_world : Scene → World → List Op → List Entry → Scan → Scene
with_world s w ops entries scan = record s {
  ops = s.ops ++ ops;
  hist = record s.hist { scan = scan };
  since = s.since ++ ops;
  entries = s.entries ++ entries;
  back = background_after s (beat (label.World w) entries ops);
}

-- no command is touched, so the parts beside the store fit as before
untouched : (s : Scene) (d e : Server) (w : World) (ops : List Op) (entries : List Entry) (scan : Scan) → Fits s d → e.set ≡ d.set → e.commands.items ≡ d.commands.items → e.arrived ≡ d.arrived
    → HasOps (with_world s w ops entries scan) e.store → IsCached (with_world s w ops entries scan) e.store.cache → KnowsHistory (with_world s w ops entries scan) e.known
    → IsStood s.map (s.ops ++ ops) s.hist.blocks → Fits (with_world s w ops entries scan) e
untouched s d e w ops entries scan fits set_is commands_is arrived_is store cached known stands = record {
  size = fits.size;
  store = store;
  cached = cached;
  known = known;
  tasks = record { set = set_is ∙ fits.tasks.set; arrived = arrived_is ∙ fits.tasks.arrived; came = fits.tasks.came };
  staged = λ q. staged-alike s (with_world s w ops entries scan) q (accepted_of d.commands.items q) (accepted_of e.commands.items q)
      (record { size = refl; map = refl; member = refl; duty = refl; window = refl; settings = refl; recovered = refl; dirty = λ n holds. refl })
      (ap (λ (xs : List Accepted). accepted_of xs q) commands_is) (fits.staged q);
  apart = apart_alone (with_world s w ops entries scan) (stays_flightless s (beat (label.World w) entries ops) fits.flightless) fits.apart.commands;
  windows = fits.windows;
  stands = stands;
  unstuck = quiet_back s (beat (label.World w) entries ops) fits.unstuck;
  flightless = stays_flightless s (beat (label.World w) entries ops) fits.flightless;
}

pub standing_now : (s : Scene) (d : Server) → Fits s d → IsStanding s
standing_now s d fits = record { powered = fits.store.powered; present = fits.store.present; stands = fits.stands }

damages : (s : Scene) (d e : Server) (x : Damage) → DamageTurnsAreGood → Fits s d → e.store ≡ record d.store { platter = with_op d.store.platter (Damaged x) }
    → e.set ≡ d.set → e.commands.items ≡ d.commands.items → e.arrived ≡ d.arrived → e.known ≡ d.known
    → KeepsBlocks d.store.map d.store.platter.ops e.store.platter.ops → IsPresentMap e.store.map e.store.platter.ops
    → Moves (label.World (world.Damage x)) s d e [] None
damages s d e x damage fits store_is set_is commands_is arrived_is known_is keeps present =
    let ops : List Op = Damaged x ∷ [] in
    let t : Scene = scene_after s (beat (label.World (world.Damage x)) [] (Damaged x ∷ [])) in
    let added : e.store.platter.ops ≡ d.store.platter.ops ++ Damaged x ∷ [] = ap (λ (y : Contained). y.platter.ops) store_is in
    let all : e.store.platter.ops ≡ s.ops ++ Damaged x ∷ [] = added ∙ ap (λ (xs : List Op). xs ++ Damaged x ∷ []) fits.store.ops in
    let map_is : e.store.map ≡ d.store.map = ap (λ (y : Contained). y.map) store_is in
    let here : IsPresentMap s.map (s.ops ++ Damaged x ∷ []) =
    subst (λ (xs : List Op). IsPresentMap s.map xs) all (subst (λ (n : DefectMap). IsPresentMap n e.store.platter.ops) (map_is ∙ fits.store.map) present) in
    let kept : KeepsBlocks s.map s.ops (s.ops ++ Damaged x ∷ []) =
    subst (λ (xs : List Op). KeepsBlocks s.map s.ops xs) all
    (subst (λ (n : DefectMap). KeepsBlocks n s.ops e.store.platter.ops) fits.store.map
    (subst (λ (xs : List Op). KeepsBlocks d.store.map xs e.store.platter.ops) fits.store.ops keeps)) in
    let stands : IsStood s.map (s.ops ++ Damaged x ∷ []) s.hist.blocks = λ none taken may q below.
    subst (λ v. IsAllowed s.hist.blocks q v) (sym (kept taken may q)) (fits.stands (no_strays-before s.ops (Damaged x ∷ []) none) s.map fits.store.present.may_be q below) in
    let got : IsGotOnly s t = record {
      size = refl;
      map = refl;
      newest = λ n. refl;
      dirty = λ n. refl;
      order = refl;
      more_entries = [];
      entries = refl;
      more_ops = Damaged x ∷ [];
      since = refl;
      unstrayed = λ none. no_strays-before s.ops (Damaged x ∷ []) none;
      kept = λ q. kept s.map here.may_be q;
    } in
    let off : is_off (s.ops ++ Damaged x ∷ []) ≡ is_off s.ops = ap is_unpowered (fold-append supply_after powered s.ops (Damaged x ∷ [])) in
    record {
      ops = Damaged x ∷ [];
      added = added;
      good = damage s x (standing_now s d fits) fits.windows kept here;
      fits = untouched s d e (world.Damage x) (Damaged x ∷ []) [] s.hist.scan fits set_is commands_is arrived_is
          (has_ops s t d.store e.store (Damaged x ∷ []) fits.store refl refl map_is added (ap (λ (y : Contained). y.platter.armed) store_is)
          (ap (λ (y : Contained). y.ready) store_is) off
          (λ q. fold-append (faulty_after q) false s.ops (Damaged x ∷ [])) present)
          (subst (λ (y : Contained). IsCached t y.cache) (sym store_is) (cached_got s t d.store.cache got fits.cached))
          (subst (λ k. KnowsHistory t k) (sym known_is) (known-quiet s t d.known refl refl refl refl refl fits.known)) stands;
      counted = omega (arith, arrived_is);
      ended = refl;
    }

-- damage comes, and the map is there after it
pub damaged : (s : Scene) (d e : Server) (x : Damage) → DamageTurnsAreGood → Fits s d → e.store ≡ record d.store { platter = after_world d.store.platter (world.Damage x) }
    → e.set ≡ d.set → e.commands.items ≡ d.commands.items → e.arrived ≡ d.arrived → e.known ≡ d.known
    → (d.store.ready ≡ true → KeepsBlocks d.store.map d.store.platter.ops e.store.platter.ops) → IsStore e.store
    → (e.store.ready ≡ true → KeepsBlocks e.store.map e.store.platter.ops e.store.platter.ops)
    → (e.store.ready ≡ true → e.store.map.number < 2 ^ 63 → MayBeRecovered e.store.map.size e.store.platter.ops e.store.map)
    → Moves (label.World (world.Damage x)) s d e [] None
damaged s d e x damage fits store_is set_is commands_is arrived_is known_is keeps store finds may =
    damages s d e x damage fits store_is set_is commands_is arrived_is known_is (keeps fits.store.ready)
    (present_after s d.store e.store fits.store (ap (λ (y : Contained). y.map) store_is) (ap (λ (y : Contained). y.ready) store_is) store finds may)

-- what is known once minutes passed
abbrev pub later : Known → ℕ → Known
later known n = record known { scan = record known.scan { minutes = min (known.scan.minutes + n) minutes_at_most } }

-- minutes pass
pub minutes_pass : (s : Scene) (d e : Server) (n : ℕ) (entries : List Entry) → StillTurnsAreGood → Fits s d → e.store ≡ d.store → e.set ≡ d.set → e.commands.items ≡ d.commands.items
    → e.arrived ≡ d.arrived → e.known ≡ later d.known n → entries ≡ Tick n ∷ []
    → Moves (label.World (world.Minutes n)) s d e entries None
minutes_pass s d e n entries still fits store_is set_is commands_is arrived_is known_is entries_are =
    let t : Scene = scene_after s (beat (label.World (world.Minutes n)) (Tick n ∷ []) []) in
    let M : List Entry → Type 0 = λ es. Moves (label.World (world.Minutes n)) s d e es None in
    let moves : M (Tick n ∷ []) = record {
      ops = [];
      added = none_added s d e fits store_is;
      good = still s (label.World (world.Minutes n)) (Tick n ∷ []) (standing s d e fits store_is) (record {
        tasks = refl;
        blocks = refl;
        shown = (tt, tt);
        step = (sym (ap (λ (b : Bool). cond b [] (Tick n ∷ [])) fits.store.powered), refl);
        on_none = λ b. refl;
        on_one = refl;
        own = tt;
        order = refl;
        waits = refl;
        windows = fits.windows;
        unchanged = refl;
      });
      fits = untouched s d e (world.Minutes n) [] (Tick n ∷ []) (scan_after s.hist.scan (Tick n)) fits set_is commands_is arrived_is (has_same s d e fits store_is t refl refl)
          (subst (λ (y : Contained). IsCached t y.cache) (sym store_is)
          (cached_got s t d.store.cache (quiet_got s t (Tick n ∷ []) refl refl refl refl refl refl refl) fits.cached))
          (subst (λ (k : Known). KnowsHistory t k) (sym known_is) (record {
            capacity = fits.known.capacity;
            settings = fits.known.settings;
            retry = fits.known.retry;
            waiting = fits.known.waiting;
            warned = fits.known.warned;
            corrupt = fits.known.corrupt;
            readable = fits.known.readable;
            scan = ap (λ (x : Scan). scan_after x (Tick n)) fits.known.scan;
          })) (still_stands s d e fits store_is);
      counted = omega (arith, arrived_is);
      ended = refl;
    } in
    subst M (sym entries_are) moves
