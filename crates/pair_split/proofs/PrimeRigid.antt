-- A prime family of four or more entries is triconnected.
use Rattle.std.proofs.Common.{◌≡◌, ◌≢◌, ℕ, ◌<◌, ◌≤◌, inl, inr, Bool, true, false, not, ◌||◌, List, [], ◌∷◌, length, filter, slice_index_or, refl, sym, ap, ◌∙◌, subst, arith, Contains}
use Rattle.std.proofs.lemmas.Bool.{both_ways, ne_eqb, not-true, not_from_false, and_parts, and_from, cases_lt, false_from_ne_true, true_from_ne_false}
use Rattle.std.proofs.lemmas.List.{get_or-map, length-map}
use Rattle.std.proofs.lemmas.List.Elements.{All-contains, All-cons, All-nil, Contains-get_or}
use Rattle.permutations.specs.Relation.{connected}
use Rattle.permutations.proofs.Relation.{same-tests, connected-link, connected-reflexive, connected-symmetric, connected-transitive}
use Rattle.graph_theory.specs.Triconnected.{avoids}
use Rattle.pair_split.specs.Bridges.{side_of, removed, in_bridge, IsClosed}
use Rattle.pair_split.specs.Family.{Entry, has_end, IsFamily, touches, IsPrime}
use Rattle.pair_split.specs.Edges.{entry_ends, family_skeleton}
use Rattle.pair_split.specs.Skeleton.{SameEnds, is_vertex, HasVertices, StaysConnectedWithout, IsRigid}
use Rattle.pair_split.proofs.Elements.{contains-map, contains-filter, two-pass, length-either, some-element, filter-contains, length-parts}
use Rattle.pair_split.proofs.Sides.{touches-from, touching-entry, separation-from}
use Rattle.pair_split.proofs.Names.{same-place, two-names, side_of-at}
use Rattle.pair_split.proofs.Replaced.{first-end, second-end}
use Rattle.pair_split.proofs.BridgeSides.{bridge-from, bridge-end, bridge-common}
use Rattle.pair_split.proofs.Degrees.{tight-degree}
use Rattle.pair_split.proofs.PrimeSimple.{prime-simple, joins, joins-parallel, outside-end, other-end, touched-vertex}

module _ (entries : List Entry) (family : IsFamily entries) (prime : IsPrime entries) (four : 4 ≤ length entries) where
  -- at most one entry joins two vertices
  one-joins : (a b : ℕ) → a ≢ b → length (filter (joins a b) entries) ≤ 1
  one-joins a b n = elim (cases_lt 1 (length (filter (joins a b) entries))) [
    | inl l ↦ let w = two-names entries (joins a b) family.names_once (omega (arith, l)) in
        absurd (w.6 (prime-simple entries family prime four w.0 w.1 w.2 w.3 (joins-parallel a b w.0 w.1 n w.4 w.5)))
    | inr l ↦ l
  ]

  -- an entry is no loop
  no_loop : (e : Entry) → Contains entries e → e.first ≢ e.second
  no_loop e c = All-contains (λ (z : Entry). z.first ≢ z.second) entries e family.no_loops c

  -- three different vertices: the ends of an entry, and the other end of another one at its first end
  record Three : Type 0 where
    a : ℕ
    b : ℕ
    c : ℕ
    ab : a ≢ b
    bc : b ≢ c
    ca : c ≢ a
    a-touched : touches entries a ≡ true
    b-touched : touches entries b ≡ true
    c-touched : touches entries c ≡ true

  three : Three
  three = begun (some-element entries (omega (arith, four)))
    where
      begun : (e : Entry) × Contains entries e → Three
      begun w =
          let f = tight-degree entries family prime.tight (omega (arith, four)) w.0 w.0.first w.1 (first-end w.0.first w.0 refl) in
          let o = other-end w.0.first f.entry (no_loop f.entry f.within) f.end in
          record {
            a = w.0.first;
            b = w.0.second;
            c = o.0;
            ab = no_loop w.0 w.1;
            bc = λ i. f.other (sym (prime-simple entries family prime four w.0 f.entry w.1 f.within
                (joins-parallel w.0.first w.0.second w.0 f.entry (no_loop w.0 w.1)
                (and_from (has_end w.0.first w.0) (has_end w.0.second w.0) (first-end w.0.first w.0 refl) (second-end w.0.second w.0 refl))
                (subst (λ (z : ℕ). joins w.0.first z f.entry ≡ true) (sym i) o.2))));
            ca = o.1;
            a-touched = touches-from entries w.0.first w.0 w.1 (first-end w.0.first w.0 refl);
            b-touched = touches-from entries w.0.second w.0 w.1 (second-end w.0.second w.0 refl);
            c-touched = touches-from entries o.0 f.entry f.within (and_parts (has_end w.0.first f.entry) (has_end o.0 f.entry) o.2).1;
          }

  -- an entry that joins no two of the three vertices
  fourth : (t : Three) → (e : Entry) × Contains entries e × (((joins t.a t.b e || joins t.b t.c e) || joins t.c t.a e) ≡ false)
  fourth t =
      let w = some-element (filter (λ e. not ((joins t.a t.b e || joins t.b t.c e) || joins t.c t.a e)) entries)
      (omega (
        arith,
        four,
        length-parts (λ e. (joins t.a t.b e || joins t.b t.c e) || joins t.c t.a e) entries,
        length-either (λ e. joins t.a t.b e || joins t.b t.c e) (joins t.c t.a) entries,
        length-either (joins t.a t.b) (joins t.b t.c) entries,
        one-joins t.a t.b t.ab,
        one-joins t.b t.c t.bc,
        one-joins t.c t.a t.ca,
      )) in
      let c = filter-contains (λ e. not ((joins t.a t.b e || joins t.b t.c e) || joins t.c t.a e)) w.0 entries w.1 in
      (w.0, c.0, not-true ((joins t.a t.b w.0 || joins t.b t.c w.0) || joins t.c t.a w.0) c.1)

  -- there are at least four vertices
  pub prime-four : HasVertices 4 (family_skeleton entries)
  prime-four = found three (fourth three)
    where
      found : (t : Three) → (e : Entry) × Contains entries e × (((joins t.a t.b e || joins t.b t.c e) || joins t.c t.a e) ≡ false) → HasVertices 4 (family_skeleton entries)
      found t w = let d = outside-end t.a t.b t.c w.0 (no_loop w.0 w.1) w.2 in record {
        vertices = t.a ∷ t.b ∷ t.c ∷ d.0 ∷ [];
        enough = omega arith;
        distinct = grind (arith, ne_eqb t.b t.a (λ i. t.ab (sym i)), ne_eqb t.c t.a t.ca, ne_eqb d.0 t.a (λ i. d.2 (sym i)), ne_eqb t.c t.b (λ i. t.bc (sym i)), ne_eqb d.0 t.b (λ i. d.3 (sym i)), ne_eqb d.0 t.c (λ i. d.4 (sym i)));
        are_vertices = All-cons P t.a (t.b ∷ t.c ∷ d.0 ∷ []) (touched-vertex entries t.a ∙ t.a-touched)
            (All-cons P t.b (t.c ∷ d.0 ∷ []) (touched-vertex entries t.b ∙ t.b-touched)
            (All-cons P t.c (d.0 ∷ []) (touched-vertex entries t.c ∙ t.c-touched)
            (All-cons P d.0 [] (touched-vertex entries d.0 ∙ touches-from entries d.0 w.0 w.1 d.1) (All-nil P))));
      }
        where
          P : ℕ → Type 0
          P v = is_vertex (family_skeleton entries) v ≡ true

  -- places with the same two ends are the same
  pub prime-places : (i j : ℕ) → i < length (family_skeleton entries) → j < length (family_skeleton entries) → SameEnds (slice_index_or (family_skeleton entries) i (0, 0)) (slice_index_or (family_skeleton entries) j (0, 0)) → i ≡ j
  prime-places i j l m s =
      same-place entries family.names_once i j none l' m'
      (prime-simple entries family prime four (slice_index_or entries i none) (slice_index_or entries j none) (Contains-get_or entries i none l') (Contains-get_or entries j none m')
      (subst (λ (z : ℕ × ℕ). SameEnds z (entry_ends (slice_index_or entries j none))) (get_or-map entry_ends entries i none (0, 0) l')
      (subst (λ (z : ℕ × ℕ). SameEnds (slice_index_or (family_skeleton entries) i (0, 0)) z) (get_or-map entry_ends entries j none (0, 0) m') s)))
    where
      none : Entry
      none = record { name = 0; first = 0; second = 0 }

      l' : i < length entries
      l' = omega (arith, l, length-map entries entry_ends)

      m' : j < length entries
      m' = omega (arith, m, length-map entries entry_ends)

  module _ (a b : ℕ) where
    -- the links that have neither a nor b as an end
    abbrev links : List (ℕ × ℕ)
    links = filter (avoids (a ∷ b ∷ [])) (family_skeleton entries)

    module _ (u : ℕ) where
      -- the vertices that the links connect with u
      abbrev class : ℕ → Bool
      class z = connected links u z

      -- the two ends of a link are both connected with u or both not
      class-closed : IsClosed entries a b class
      class-closed e c m n = same-tests (connected links u e.first) (connected links u e.second)
          (λ h. connected-transitive links u e.first e.second h linked)
          (λ h. connected-transitive links u e.second e.first h (connected-symmetric links e.first e.second linked))
        where
          linked : connected links e.first e.second ≡ true
          linked = connected-link links e.first e.second (contains-filter (avoids (a ∷ b ∷ [])) (entry_ends e) (family_skeleton entries) (contains-map entry_ends e entries c)
              (and_from (not (removed a b e.first)) (not (removed a b e.second)) (not_from_false (removed a b e.first) m) (not_from_false (removed a b e.second) n)))

      -- the two entries at a vertex, where all entries there pass a test
      pass-two : (p : Entry → Bool) (x : ℕ) → touches entries x ≡ true → ((e : Entry) → Contains entries e → has_end x e ≡ true → p e ≡ true) → 2 ≤ length (filter p entries)
      pass-two p x t h =
          let e = touching-entry entries x t in
          let f = tight-degree entries family prime.tight (omega (arith, four)) e.0 x e.1 e.2 in
          two-pass p e.0 f.entry entries (λ i. f.other (ap (λ (z : Entry). z.name) (sym i))) e.1 f.within (h e.0 e.1 e.2) (h f.entry f.within f.end)

      -- no vertex is apart from u
      not_apart : (v : ℕ) → touches entries u ≡ true → touches entries v ≡ true → removed a b u ≡ false → removed a b v ≡ false → connected links u v ≡ false → ⊥
      not_apart v tu tv mu mv n = prime.none (side_of entries (in_bridge a b class)) a b (separation-from entries (side_of entries (in_bridge a b class)) a b prime.tight
          (pass-two (λ (e : Entry). side_of entries (in_bridge a b class) e.name) u tu (λ e c h. side_of-at entries (in_bridge a b class) family.names_once e c ∙ bridge-from a b class e u h mu (connected-reflexive links u)))
          (pass-two (λ (e : Entry). not (side_of entries (in_bridge a b class) e.name)) v tv (λ e c h. not_from_false (side_of entries (in_bridge a b class) e.name)
          (side_of-at entries (in_bridge a b class) family.names_once e c ∙ false_from_ne_true (in_bridge a b class e) (λ t. both_ways (connected links u v) n (bridge-end entries a b class class-closed e v c t h mv)))))
          (bridge-common entries family.names_once a b class class-closed))

    -- when two vertices or fewer are removed, the others stay connected
    pub prime-stays_connected : StaysConnectedWithout (family_skeleton entries) (a ∷ b ∷ [])
    prime-stays_connected u v tu tv mu mv =
        true_from_ne_false (connected links u v) (not_apart u v (sym (touched-vertex entries u) ∙ tu) (sym (touched-vertex entries v) ∙ tv) mu mv)

  -- a prime family of four or more entries is triconnected
  pub prime-rigid : IsRigid (family_skeleton entries)
  prime-rigid = record { simple = prime-places; four = prime-four; stays_connected = prime-stays_connected }
