-- A drive from the factory: all its blocks are zeros, and its parts fit what a history begins with.
use Rattle.std.proofs.Common.{◌≡◌, ◌<◌, true, List, [], ◌∷◌, length, drop, Some, None, refl, sym, subst, arith}
use Rattle.std.specs.Prelude.{◌^◌}
use Rattle.std.proofs.lemmas.List.Elements.{All-nil}
use Rattle.geometry_map.specs.Size.{capacity_of}
use Rattle.geometry_map.specs.DefectMap.{factory_map}
use Rattle.sector_store.specs.Maps.{MayBeRecovered}
use Rattle.sector_store.specs.Stored.{KeepsBlocks}
use Rattle.sector_store.specs.State.{Contained, IsStore, made_by_factory}
use Rattle.sense_data.specs.Attentions.{Waiting}
use Rattle.history_replay.specs.Warning.{KnownWait}
use Rattle.history_replay.proofs.KnownWaiting.{known_at_start}
use Rattle.drive_scene.specs.declared.made.Made.{Made}
use Rattle.drive_core.specs.declared.accepted.Accepted.{Accepted}
use Rattle.drive_core.specs.declared.server.Server.{Server}
use Rattle.drive_scene.specs.Scene.{factory_ops, scene_at_start}
use Rattle.drive_scene.specs.Run.{run_of, behind_factory}
use Rattle.drive_scene.specs.View.{view}
use Rattle.drive_core.specs.Commands.{IsStaged}
use Rattle.drive_core.specs.Accepting.{accepted_of}
use Rattle.drive_core.specs.Starting.{KnowsStart}
use Rattle.drive_scene.specs.Present.{IsPresentMap}
use Rattle.drive_core.specs.Kept.{Kept}
use Rattle.drive_core.proofs.Flightless.{apart_alone}
use Rattle.drive_scene.specs.Laws.{IsFromFactory, FactoriesLeaveZeros}

-- what is said of a store that was just made
pub record IsFresh (store : Contained) : Type 0 where
  pub there : IsStore store
  pub finds : store.ready ≡ true → KeepsBlocks store.map store.platter.ops store.platter.ops
  pub may : store.ready ≡ true → store.map.number < 2 ^ 63 → MayBeRecovered store.map.size store.platter.ops store.map

-- nothing is behind all
none-behind : {A : Type 0} (xs : List A) → length (drop (length xs) xs) ≡ 0
none-behind [] = refl
none-behind (x ∷ xs) = none-behind xs

fresh_follow : (made : Made) → length (behind_factory made (factory_ops made)) ≡ 0
unfolding behind_factory
fresh_follow made = none-behind (factory_ops made)

fresh_at : (made : Made) (d : Server) → d.store ≡ made_by_factory made.size made.primary → FactoriesLeaveZeros
    → IsFresh (made_by_factory made.size made.primary) → d.set ≡ [] → d.commands.items ≡ [] → d.arrived ≡ 0 → KnowsStart (capacity_of made.size) d.known
    → Kept (run_of made (made_by_factory made.size made.primary) [] 0) (record d { store = made_by_factory made.size made.primary })
fresh_at made d is leaves fresh set commands arrived known =
    let present : IsPresentMap (factory_map made.size made.primary) (factory_ops made) = record {
      there = fresh.there.there refl;
      number = omega arith;
      may_be = fresh.may refl (omega arith);
      finds = fresh.finds refl;
    } in
    let zeros : IsFromFactory made = leaves made present in
    record {
      size = refl;
      follow = sym (fresh_follow made);
      good = tt;
      fits = record {
        size = refl;
        store = record {
          map = refl;
          ops = refl;
          present = present;
          powered = zeros.powered;
          unarmed = refl;
          ready = refl;
          sound = zeros.sound;
        };
        cached = record { dirty = λ b. refl; ages = refl; below = λ b bytes held. absurd (cc); known = λ b bytes held. absurd (cc); clean = λ b bytes held. absurd (cc) };
        known = record {
          capacity = known.capacity;
          settings = known.settings;
          retry = omega arith;
          waiting = known.waiting;
          warned = subst (λ (w : Waiting). KnownWait w) (sym known.waiting) known_at_start;
          corrupt = known.corrupt;
          readable = refl;
          scan = known.scan;
        };
        tasks = record { set = set; arrived = arrived; came = All-nil _ };
        staged = λ c. subst (λ (cs : List Accepted). IsStaged (view (scene_at_start made) c) (accepted_of cs c)) (sym commands) refl;
        apart = apart_alone (scene_at_start made) refl (λ c q b of_c of_q. absurd (let never : None ≡ Some b = of_c in cc));
        windows = λ c. omega arith;
        stands = zeros.stands;
        unstuck = λ n. refl;
        flightless = refl;
      };
      numbered = omega (arith, arrived);
    }

pub kept-fresh : (made : Made) (d : Server) → d.store ≡ made_by_factory made.size made.primary → FactoriesLeaveZeros → IsFresh d.store
    → d.set ≡ [] → d.commands.items ≡ [] → d.arrived ≡ 0 → KnowsStart (capacity_of made.size) d.known → Kept (run_of made d.store [] 0) d
kept-fresh made d is leaves fresh set commands arrived known =
    subst (λ (store : Contained). Kept (run_of made store [] 0) (record d { store = store })) (sym is)
    (fresh_at made d is leaves (subst IsFresh is fresh) set commands arrived known)
