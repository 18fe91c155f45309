use Rattle.std.proofs.Common.{◌≡◌, ◌∙◌, ℕ, map, Option, Some, slice_get, nat_eq, ap, sym, subst}
use Rattle.std.specs.Prelude.{option_map, MatchOption}
use Rattle.indexmap.specs.IndexMap.{get}
use Rattle.ped_refs.specs.TextPlaces.{Key}
use Rattle.ped_graph.specs.Held.{HeldFrame, pair_by}
use Rattle.ped_graph.specs.Keys.{key_of, key_shown, IsOnlyAt}
use Rattle.ped_update.specs.Matching.{former_in, with_number, both_places, former_key}
use Rattle.ped_update.proofs.Origins.{no_key}
use Rattle.ped_update.proofs.OneMore.{place_by, place_within}
use Rattle.ped_update.proofs.matching.former_place_of.Goals as goal

-- the former key by the table is that by the statements that are kept
by_table : (table former : ℕ → Option ℕ) (k key : Key) → ((now : ℕ) → table now ≡ former now) → k ≡ key → former_key former k ≡ former_key table key
by_table table former k key same is =
    ap (former_key former) is ∙ (λ i. both_places (with_number (sym (same key.0.0) i) key.0.1) (with_number (sym (same key.1.0) i) key.1.1))

pub returns-in_default-clause-place : goal.returns-in_default-clause-place
returns-in_default-clause-place g c = λ keep f v once table key.
    no_key c.args.former.now.graph.now keep once (pair_by f v)
    (by_table (get nat_eq c.args.former.now.statements.now) (former_in keep) (f.source, f.sink) (key_shown c.args.key.now) table key ∙ sym c.former_key.ensures ∙ ap (λ o. option_map key_shown o) c.in_default.is)

pub returns-clause-within : goal.returns-clause-within
returns-clause-within g c =
    place_within c.args.former.now.graph.now (key_shown c.in-Some.key) c.place_near.result
    (subst (λ (h : HeldFrame). MatchOption c.place_near.result ((n : ℕ) → slice_get (map key_of h.pairs) n ≡ Some (key_shown c.in-Some.key) → ⊥) (λ n. IsOnlyAt (map key_of h.pairs) (key_shown c.in-Some.key) n)) c.frame.ensures c.place_near.ensures)

pub returns-clause-place : goal.returns-clause-place
returns-clause-place g c = λ keep f v once table key.
    place_by c.args.former.now.graph.now keep (pair_by f v) once (key_shown c.in-Some.key) c.place_near.result
    (by_table (get nat_eq c.args.former.now.statements.now) (former_in keep) (f.source, f.sink) (key_shown c.args.key.now) table key ∙ sym c.former_key.ensures ∙ ap (λ o. option_map key_shown o) c.in-Some.is)
    (subst (λ (h : HeldFrame). MatchOption c.place_near.result ((n : ℕ) → slice_get (map key_of h.pairs) n ≡ Some (key_shown c.in-Some.key) → ⊥) (λ n. IsOnlyAt (map key_of h.pairs) (key_shown c.in-Some.key) n)) c.frame.ensures c.place_near.ensures)
