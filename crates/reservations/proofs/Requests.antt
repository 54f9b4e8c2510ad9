-- What is known of a request that passed its checks.
use Rattle.std.proofs.Common.{◌≡◌, refl, ap, ◌∙◌, sym, ℕ, ◌==◌, Bool, true, false, not, cond, List, Option, Some, None, Ok, Err}
use Rattle.std.specs.Prelude.{◌&&◌, ◌||◌, slice_index}
use Rattle.std.proofs.lemmas.Bool.{or_parts}
use Rattle.disk_base.specs.declared.command.DataOut.{DataOut}
use Rattle.sense_data.specs.declared.sense.Sense.{Sense}
use Rattle.reservations.specs.declared.request.Action.{Action}
use Rattle.reservations.specs.declared.request.Parameters.{Parameters}
use Rattle.reservations.specs.declared.request.Request.{Request}
use Rattle.reservations.specs.Desk.{is_type}
use Rattle.reservations.specs.Parameters.{parameters_of, refuses}
use Rattle.reservations.specs.Request.{action_of, checked_request, given, has_naca, list_length, names_type, request_of, request_with, service_action}

type-named : (n t : Bool) → n ≡ true → (n && not t) ≡ false → t ≡ true
type-named true true named right = refl
type-named true false named right = cc
type-named false t named right = absurd (cc)

-- where the parameter list is taken, the action and the type are those of the command block
request-parts : (a : Action) (k : ℕ) (p : Parameters) (r : Request) (b : Bool) (s : Sense)
    → cond b (Err s) (Ok (record { action = a; kind = k; key = p.key; action_key = p.action_key })) ≡ Ok r → (r.action ≡ a) × (r.kind ≡ k)
request-parts a k p r true s is = absurd (cc)
request-parts a k p r false s is =
    let made : Request = record { action = a; kind = k; key = p.key; action_key = p.action_key } in
    let same : made ≡ r = cc in (sym (ap (λ (q : Request). q.action) same), sym (ap (λ (q : Request). q.kind) same))

typed-list : (a : Action) (k : ℕ) (o : Option Parameters) (r : Request) → request_with a k o ≡ Ok r → (r.action ≡ a) × (r.kind ≡ k)
typed-list a k None r is = absurd (cc)
typed-list a k (Some p) r is = request-parts a k p r (refuses a p) _ is

typed-checks : (a : Action) (k : ℕ) (naca b c : Bool) (o : Option Parameters) (r : Request) (s t : Sense)
    → (naca || (names_type a && not (is_type k))) ≡ b → cond b (Err s) (cond c (Err t) (request_with a k o)) ≡ Ok r
    → names_type r.action ≡ true → is_type r.kind ≡ true
typed-checks a k naca true c o r s t test is named = absurd (cc)
typed-checks a k naca false true o r s t test is named = absurd (cc)
typed-checks a k naca false false o r s t test is named =
    let parts = typed-list a k o r is in
    ap is_type parts.1 ∙ type-named (names_type a) (is_type k) (sym (ap names_type parts.0) ∙ named) (or_parts naca _ test).1

typed-action : (o : Option Action) (cdb bytes : List ℕ) (r : Request) → checked_request o cdb bytes ≡ Ok r
    → names_type r.action ≡ true → is_type r.kind ≡ true
typed-action None cdb bytes r is named = absurd (cc)
typed-action (Some a) cdb bytes r is named =
    typed-checks a (slice_index cdb 2) (has_naca cdb) _ (not (list_length cdb == 24)) (parameters_of bytes) r _ _ refl is named

-- an action that names a type names one of the four
pub type-of-request : (cdb : List ℕ) (sent : DataOut) (r : Request) → request_of cdb sent ≡ Ok r → names_type r.action ≡ true → is_type r.kind ≡ true
type-of-request cdb sent r is named = typed-action (action_of (service_action cdb)) cdb (given sent) r is named
