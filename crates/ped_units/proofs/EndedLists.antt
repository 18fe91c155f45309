-- Statements divided into units one by one.
use Rattle.std.proofs.Common.{◌≡◌, List, [], ◌∷◌, ◌++◌, Bool, true, false, cond, Some, None, refl, sym, ap, ◌∙◌, append_assoc, append-nil}
use Rattle.std.specs.Prelude.{◌&&◌, ◌||◌}
use Rattle.ped_units.specs.Reading.{UnitEntry, Segment, ends, begins, own_entries, further_segments, segments_of}
use Rattle.ped_units.specs.Seeing.{segments_onto}

-- a statement that begins another unit
pub begun_onto : (s : Segment) (ended : Bool) (e : UnitEntry) (rest : List UnitEntry) → (ended && begins e.item) ≡ true
    → segments_onto s ended (e ∷ rest) ≡ s ∷ segments_onto (record { head = Some e; entries = [] }) false rest
begun_onto s ended e rest h = λ i. record { head = s.head; entries = own i } ∷ further i
  where
    append_nil : (xs : List UnitEntry) → xs ++ [] ≡ xs
    append_nil [] = refl
    append_nil (x ∷ xs) = λ i. x ∷ append_nil xs i

    own : s.entries ++ own_entries ended (e ∷ rest) ≡ s.entries
    own = ap (λ (b : Bool). s.entries ++ cond b [] (e ∷ own_entries (ended || ends e.item) rest)) h ∙ append_nil s.entries

    further : further_segments ended (e ∷ rest) ≡ record { head = Some e; entries = own_entries false rest } ∷ further_segments false rest
    further = ap (λ (b : Bool). cond b (record { head = Some e; entries = own_entries false rest } ∷ further_segments false rest) (further_segments (ended || ends e.item) rest)) h

-- a statement of the unit itself
pub owned_onto : (s : Segment) (ended : Bool) (e : UnitEntry) (rest : List UnitEntry) → (ended && begins e.item) ≡ false
    → segments_onto s ended (e ∷ rest) ≡ segments_onto (record s { entries = s.entries ++ e ∷ [] }) (ended || ends e.item) rest
owned_onto s ended e rest h = λ i. record { head = s.head; entries = own i } ∷ further i
  where
    own : s.entries ++ own_entries ended (e ∷ rest) ≡ (s.entries ++ e ∷ []) ++ own_entries (ended || ends e.item) rest
    own = ap (λ (b : Bool). s.entries ++ cond b [] (e ∷ own_entries (ended || ends e.item) rest)) h ∙ sym (append_assoc s.entries (e ∷ []) (own_entries (ended || ends e.item) rest))

    further : further_segments ended (e ∷ rest) ≡ further_segments (ended || ends e.item) rest
    further = ap (λ (b : Bool). cond b (record { head = Some e; entries = own_entries false rest } ∷ further_segments false rest) (further_segments (ended || ends e.item) rest)) h

-- at first there is the main program without statements
pub nothing_onto : (done : List Segment) (s : Segment) (all : List UnitEntry) → done ≡ [] → s ≡ record { head = None; entries = [] } → done ++ segments_onto s false all ≡ segments_of all
nothing_onto done s all h is = ap (λ (ss : List Segment). ss ++ segments_onto s false all) h ∙ ap (λ (t : Segment). segments_onto t false all) is

-- a statement more begins another unit
pub begun_more : (whole done : List Segment) (s next : Segment) (ended : Bool) (e : UnitEntry) (left rest : List UnitEntry) → done ++ segments_onto s ended left ≡ whole → left ≡ e ∷ rest → (ended && begins e.item) ≡ true → next ≡ record { head = Some e; entries = [] }
    → (done ++ s ∷ []) ++ segments_onto next false rest ≡ whole
begun_more whole done s next ended e left rest inv l h is =
    ap (λ (t : Segment). (done ++ s ∷ []) ++ segments_onto t false rest) is
    ∙ append_assoc done (s ∷ []) (segments_onto (record { head = Some e; entries = [] }) false rest)
    ∙ ap (λ (ss : List Segment). done ++ ss) (sym (begun_onto s ended e rest h))
    ∙ ap (λ (es : List UnitEntry). done ++ segments_onto s ended es) (sym l)
    ∙ inv

-- a statement more belongs to the unit itself
pub owned_more : (whole done : List Segment) (s next : Segment) (ended now : Bool) (e : UnitEntry) (left rest : List UnitEntry) → done ++ segments_onto s ended left ≡ whole → left ≡ e ∷ rest → (ended && begins e.item) ≡ false → next ≡ record s { entries = s.entries ++ e ∷ [] } → now ≡ (ended || ends e.item)
    → done ++ segments_onto next now rest ≡ whole
owned_more whole done s next ended now e left rest inv l h is n =
    ap (λ (t : Segment). done ++ segments_onto t now rest) is
    ∙ ap (λ (b : Bool). done ++ segments_onto (record s { entries = s.entries ++ e ∷ [] }) b rest) n
    ∙ ap (λ (ss : List Segment). done ++ ss) (sym (owned_onto s ended e rest h))
    ∙ ap (λ (es : List UnitEntry). done ++ segments_onto s ended es) (sym l)
    ∙ inv

-- no statement is left
pub all_done : (whole done : List Segment) (s : Segment) (ended : Bool) (left : List UnitEntry) → done ++ segments_onto s ended left ≡ whole → left ≡ [] → done ++ s ∷ [] ≡ whole
all_done whole done s ended left inv l =
    ap (λ (es : List UnitEntry). done ++ (record s { entries = es }) ∷ []) (sym (append-nil s.entries))
    ∙ ap (λ (es : List UnitEntry). done ++ segments_onto s ended es) (sym l)
    ∙ inv
