-- How the table goes on, level by level.
use Rattle.std.proofs.Common.{◌≡◌, ℕ, ◌+◌, ◌≤◌, List, [], ◌∷◌, ◌++◌, map, length, Bool, true, false, ◌&&◌, ◌||◌, ◌==◌, not, Option, Some, None, refl, sym, ap, ◌∙◌, arith}
use Rattle.std.specs.Prelude.{if◌then◌else◌, ltb}
use Rattle.std.specs.Map.{lookup}
use mathlib.Core.Path.{fun_ext}
use Rattle.std.proofs.lemmas.Bool.{le-ltb}
use Rattle.std.proofs.lemmas.List.{length-map}
use Rattle.std.proofs.Math.Bool.{or-false}
use Rattle.std.specs.Cmp.Lexicographic.{pointwise}
use Rattle.ped_store.specs.Cells.{same_cell, same_iteration}
use Rattle.ped_store.specs.Acts.{Turn}
use Rattle.ped_store.specs.Races.{Access, conflict, are_apart, race}
use Rattle.ped_order.specs.Keys.{Key, same_key, key_of, iteration_of, is_elsewhere, is_rival}
use Rattle.ped_order.specs.KeyLaws.{key_decides}
use Rattle.ped_order.specs.Paths.{level_view}
use Rattle.ped_order.specs.declared.sightings.Sighting.{Sighting}
use Rattle.ped_order.specs.declared.sightings.Entry.{Entry}
use Rattle.ped_order.specs.declared.sightings.Summary.{Summary}
use Rattle.ped_order.specs.declared.touched.Touched.{Touched}
use Rattle.ped_order.specs.declared.tables.Table.{Table}
use Rattle.ped_order.specs.Sightings.{rival_in, rival_among, first_of, earlier_of, first_sighting}
use Rattle.ped_order.specs.Entered.{Telling, told_by, is_within, Enters}
use Rattle.ped_order.specs.Tables.{Remembers, cut, told_with, told_in, is_told, IsKnown}
use Rattle.ped_order.proofs.Searches.{found_either, found_never}
use Rattle.ped_order.proofs.Levels.{not_apart, apart_further, elsewhere_further}
use Rattle.ped_order.proofs.PathLaws.{nothing_within}

either_and : (x y c : Bool) → (x || y) && c ≡ (x && c) || (y && c)
either_and true y true = refl
either_and true true false = refl
either_and true false false = refl
either_and false y c = refl

race_further : (b : Access) (before : List Turn) (u : Turn) (a : Access) → race a (cut (before ++ u ∷ []) b) ≡ race a (cut before b) || is_rival (key_of b.cell before u) u.number b.writes a
race_further b before u a =
    ap (λ r. r && conflict a b) (apart_further a.place.turns before u)
    ∙ either_and (are_apart a.place.turns before) (is_elsewhere (map iteration_of before) u.statement u.number a.place.turns) (conflict a b)

-- nothing races with an access in no turn
pub asked_nothing : (b : Access) (seen : List Access) → None ≡ first_sighting (λ a. race a (cut [] b)) 0 seen
asked_nothing b seen = sym (found_never (λ a. race a (cut [] b)) 0 seen (λ a. ap (λ r. r && conflict a b) (not_apart a.place.turns)))

-- what is known of a cell tells what the table does
pub known_tells : (o : Option Touched) (c : Touched) (told : Telling) (k : Key) (n : ℕ) (writes : Bool) → IsKnown o c → (is_told o k ≡ true → told k n writes ≡ None) → told_with c told k n writes ≡ told_in o told k n writes
known_tells (Some known) c told k n writes e bare = ap (λ (d : Touched). told_with d told k n writes) e
known_tells None c told k n writes e bare = go (ltb (length k.around) (length c.path)) (is_elsewhere k.around k.statement n (map level_view c.path))
  where
    go : (b d : Bool) → (if b then (if d then rival_among c.seen writes else None) else told k n writes) ≡ None
    go true true = ap (λ (o : Option Summary). rival_among o writes) e
    go true false = refl
    go false d = bare refl

-- where the path of the cell goes so far it tells of a key, and else the table of keys does
pub told_in_path : (c : Touched) (told : Telling) (k : Key) (n : ℕ) (writes : Bool) → ltb (length k.around) (length c.path) ≡ true → (if is_elsewhere k.around k.statement n (map level_view c.path) then rival_among c.seen writes else None) ≡ told_with c told k n writes
told_in_path c told k n writes e = sym (ap (λ b. if b then (if is_elsewhere k.around k.statement n (map level_view c.path) then rival_among c.seen writes else None) else told k n writes) e)

pub told_past : (c : Touched) (told : Telling) (k : Key) (n : ℕ) (writes : Bool) → ltb (length k.around) (length c.path) ≡ false → told k n writes ≡ told_with c told k n writes
told_past c told k n writes e = sym (ap (λ b. if b then (if is_elsewhere k.around k.statement n (map level_view c.path) then rival_among c.seen writes else None) else told k n writes) e)

-- the earliest access that races in one turn more is the earlier of that before and what is told of the key there
pub asked_further : (table : Table) (seen : List Access) → Remembers table seen → (b : Access) (c : Touched) → IsKnown (lookup (same_cell b.cell) table.cells.entries) c → (before : List Turn) (u : Turn)
    → earlier_of (first_sighting (λ a. race a (cut before b)) 0 seen) (told_with c (told_by table.entries.entries) (key_of b.cell before u) u.number b.writes) ≡ first_sighting (λ a. race a (cut (before ++ u ∷ []) b)) 0 seen
asked_further table seen r b c known before u =
    ap (earlier_of (first_sighting (λ a. race a (cut before b)) 0 seen))
    (known_tells (lookup (same_cell b.cell) table.cells.entries) c (told_by table.entries.entries) (key_of b.cell before u) u.number b.writes known (r.bare (key_of b.cell before u) u.number b.writes) ∙ r.tells (key_of b.cell before u) u.number b.writes)
    ∙ sym (found_either (λ a. race a (cut before b)) (is_rival (key_of b.cell before u) u.number b.writes) 0 seen)
    ∙ sym (ap (λ p. first_sighting p 0 seen) (fun_ext (race_further b before u)))

spread : (e p s n q c w : Bool) → (e || (p && (s && (n && q)))) && (c && w) ≡ (e && (c && w)) || ((s && (c && p)) && ((n && w) && q))
spread true p s n q true true = refl
spread true true true true true true false = refl
spread true true true true false true false = refl
spread true true true false q true false = refl
spread true true false n q true false = refl
spread true false true n q true false = refl
spread true false false n q true false = refl
spread true p true n q false w = refl
spread true p false n q false w = refl
spread false true true true true true true = refl
spread false true true true true true false = refl
spread false true true true true false w = refl
spread false true true true false true true = refl
spread false true true true false true false = refl
spread false true true true false false w = refl
spread false true true false q true w = refl
spread false true true false q false w = refl
spread false true false n q c w = refl
spread false false true n q true w = refl
spread false false true n q false w = refl
spread false false false n q c w = refl

-- one more turn makes an access a rival at one key more, where it is of a PARALLEL DO
rival_further : (k : Key) (n : ℕ) (writes : Bool) (a : Access) (before : List Turn) (u : Turn)
    → is_rival k n writes (cut (before ++ u ∷ []) a) ≡ is_rival k n writes (cut before a) || (same_key (key_of a.cell before u) k && ((not (u.number == n) && (a.writes || writes)) && u.parallel))
rival_further k n writes a before u =
    ap (λ r. r && (same_cell a.cell k.cell && (a.writes || writes))) (elsewhere_further k.around k.statement n before u)
    ∙ spread (is_elsewhere k.around k.statement n before) (pointwise same_iteration (map iteration_of before) k.around) (u.statement == k.statement) (not (u.number == n)) u.parallel (same_cell a.cell k.cell) (a.writes || writes)

both_false : (x y : Bool) → x && (y && false) ≡ false
both_false true true = refl
both_false true false = refl
both_false false y = refl

pub as_it_was : (o : Option Sighting) → o ≡ first_of o None
as_it_was None = refl
as_it_was (Some x) = refl

-- before the first of its turns that count, an access adds nothing
pub added_none : (entries : List (Key × Entry)) (from : ℕ) (s : Sighting) (a : Access) (before : List Turn) → length before ≤ from → Enters (told_by entries) entries from s (cut before a)
added_none entries from s a before h k n writes =
    as_it_was (told_by entries k n writes)
    ∙ ap (λ b. first_of (told_by entries k n writes) (if b then Some s else None)) (sym (nothing_within k n from before (same_cell a.cell k.cell && (a.writes || writes)) h))

-- a turn of a DO that isn't a PARALLEL DO adds nothing
pub added_nothing : (told : Telling) (entries : List (Key × Entry)) (from : ℕ) (s : Sighting) (a : Access) (before : List Turn) (u : Turn) → u.parallel ≡ false
    → Enters told entries from s (cut before a) → Enters told entries from s (cut (before ++ u ∷ []) a)
added_nothing told entries from s a before u serial h k n writes =
    h k n writes
    ∙ ap (λ r. first_of (told k n writes) (if is_within from k && r then Some s else None)) (sym same)
  where
    same : is_rival k n writes (cut (before ++ u ∷ []) a) ≡ is_rival k n writes (cut before a)
    same =
        rival_further k n writes a before u
        ∙ ap (λ q. is_rival k n writes (cut before a) || (same_key (key_of a.cell before u) k && ((not (u.number == n) && (a.writes || writes)) && q))) serial
        ∙ ap (λ r. is_rival k n writes (cut before a) || r) (both_false (same_key (key_of a.cell before u) k) (not (u.number == n) && (a.writes || writes)))
        ∙ or-false (is_rival k n writes (cut before a))

twice : (o : Option Sighting) (s : Sighting) (g r q : Bool) → g ≡ true → first_of (first_of o (if g && r then Some s else None)) (if q then Some s else None) ≡ first_of o (if g && (r || (true && (q && true))) then Some s else None)
twice (Some x) s g r q e = refl
twice None s true true q e = refl
twice None s true false true e = refl
twice None s true false false e = refl
twice None s false r q e = absurd cc

-- a turn of a PARALLEL DO adds the access at its key
pub added_further : (told : Telling) (old new : List (Key × Entry)) (entry : Entry) (from : ℕ) (s : Sighting) (a : Access) (before : List Turn) (u : Turn) → from ≤ length before → u.parallel ≡ true
    → ((n : ℕ) (w : Bool) → rival_in (Some entry) n w ≡ first_of (told_by old (key_of a.cell before u) n w) (if not (u.number == n) && (a.writes || w) then Some s else None))
    → ((k : Key) → lookup (same_key k) new ≡ (if same_key (key_of a.cell before u) k then Some entry else lookup (same_key k) old))
    → Enters told old from s (cut before a) → Enters told new from s (cut (before ++ u ∷ []) a)
added_further told old new entry from s a before u far parallel entered updated h k n writes = go (same_key here k) refl
  where
    here : Key
    here = key_of a.cell before u

    rivals : (b : Bool) → same_key here k ≡ b → is_rival k n writes (cut (before ++ u ∷ []) a) ≡ is_rival k n writes (cut before a) || (b && ((not (u.number == n) && (a.writes || writes)) && true))
    rivals b e = rival_further k n writes a before u ∙ (λ i. is_rival k n writes (cut before a) || (e i && ((not (u.number == n) && (a.writes || writes)) && parallel i)))

    within : same_key here k ≡ true → is_within from k ≡ true
    within e =
        let l : length (map iteration_of before) ≡ length before = length-map before iteration_of in
        ap (λ (j : Key). is_within from j) (sym ((key_decides here k).0 e)) ∙ ap not (le-ltb (length (map iteration_of before)) from (omega (arith, l, far)))

    go : (b : Bool) → same_key here k ≡ b → told_by new k n writes ≡ first_of (told k n writes) (if is_within from k && is_rival k n writes (cut (before ++ u ∷ []) a) then Some s else None)
    go true e =
        ap (λ o. rival_in o n writes) (updated k ∙ ap (λ b. if b then Some entry else lookup (same_key k) old) e)
        ∙ entered n writes
        ∙ ap (λ l. first_of (told_by old l n writes) (if not (u.number == n) && (a.writes || writes) then Some s else None)) ((key_decides here k).0 e)
        ∙ ap (λ o. first_of o (if not (u.number == n) && (a.writes || writes) then Some s else None)) (h k n writes)
        ∙ twice (told k n writes) s (is_within from k) (is_rival k n writes (cut before a)) (not (u.number == n) && (a.writes || writes)) (within e)
        ∙ ap (λ r. first_of (told k n writes) (if is_within from k && r then Some s else None)) (sym (rivals true e))
    go false e =
        ap (λ o. rival_in o n writes) (updated k ∙ ap (λ b. if b then Some entry else lookup (same_key k) old) e)
        ∙ h k n writes
        ∙ ap (λ r. first_of (told k n writes) (if is_within from k && r then Some s else None)) (sym (rivals false e ∙ or-false (is_rival k n writes (cut before a))))
