-- Steps of putting components into groups.
use Rattle.std.proofs.Common.{◌≡◌, ◌≢◌, ℕ, ◌+◌, ◌<◌, ◌≤◌, ◌⊎◌, ◌==◌, ◌&&◌, inl, inr, Bool, true, cond, List, [], ◌∷◌, ◌++◌, reverse, length, slice_index_or, refl, sym, ap, ◌∙◌, subst, arith, Contains}
use Rattle.std.proofs.lemmas.Bool.{cases_eq, eq-eqb, ne_eqb}
use Rattle.std.proofs.lemmas.List.{get_or_default, reverse-append, append_assoc}
use Rattle.std.proofs.lemmas.List.Elements.{Contains-append_right, Contains-append_left, Contains-append_cases}
use Rattle.permutations.specs.Count.{sum_below}
use Rattle.pair_split.specs.Split.{component_at, items_of, item_at}
use Rattle.pair_split.specs.declared.components.Kind.{Kind}
use Rattle.pair_split.specs.declared.components.What.{What}
use Rattle.pair_split.specs.declared.components.What.TheVariants.{Real, Link}
use Rattle.pair_split.specs.declared.components.Piece.{Piece}
use Rattle.pair_split.specs.declared.components.Comp.{Comp}
use Rattle.pair_split.proofs.Elements.{contains-here, contains-cases, contains-none}
use Rattle.pair_split.proofs.Links.{no_piece}
use Rattle.pair_split.proofs.Subtrees.{link-in}
use Rattle.spqr_tree.specs.Merged.{how_many, is_outer, IsGroup}
use Rattle.spqr_tree.specs.Merging.{AreLive, MergingState, group_of, IsLed, AreSplit, AreFinished, IsAbsorbed, IsMerging, KeepsLed, with_piece, pieces_left, IsTaken}
use Rattle.spqr_tree.proofs.LiveSteps.{live-taken}
use Rattle.spqr_tree.proofs.MergeCounts.{number-cons, number-append, number-all, number-weaker, sum-changed}
use Rattle.spqr_tree.proofs.JoinedMerging.{group-kept}
use Rattle.spqr_tree.proofs.JoinedGrows.{like-parts, piece-home, group-grows}
use Rattle.spqr_tree.specs.Absent.{absent}

-- the number of the component to which a link leads
abbrev link_number : What → ℕ
link_number (Real e) = 0
link_number (Link j) = j

-- equal links lead to the same component
pub same-link : (i j : ℕ) → Link i ≡ Link j → i ≡ j
same-link i j e = ap link_number e

-- as many count backwards
pub number-reverse : (t : Piece → Bool) (pieces : List Piece) → how_many t (reverse pieces) ≡ how_many t pieces
number-reverse t [] = refl
number-reverse t (q ∷ pieces) =
    let e : how_many t (reverse (q ∷ pieces)) ≡ how_many t (reverse pieces ++ q ∷ []) = ap (how_many t) (reverse-append (q ∷ []) pieces) in
    omega (arith, e, number-append t (reverse pieces) (q ∷ []), number-cons t q [], number-cons t q pieces, number-reverse t pieces)

module _ (comps : List Comp) (split : AreSplit comps) (kind : Kind) (s : MergingState) (piece : Piece) (f : IsMerging comps kind (with_piece s piece)) where
  -- the pieces of the group in work
  abbrev all : List Piece
  all = s.done ++ reverse (s.stack ++ piece ∷ [])

  -- the piece that was taken from the stack comes next
  next-first : all ≡ (s.done ++ piece ∷ []) ++ reverse s.stack
  next-first = ap (λ (l : List Piece). s.done ++ l) (reverse-append s.stack (piece ∷ [])) ∙ sym (append_assoc s.done (piece ∷ []) (reverse s.stack))

  -- it is one of them
  is-one : Contains all piece
  is-one = subst (λ (l : List Piece). Contains l piece) (sym next-first) (Contains-append_left (s.done ++ piece ∷ []) (reverse s.stack) piece (Contains-append_right s.done (piece ∷ []) piece (contains-here piece [])))

  -- at this place
  abbrev place : ℕ
  place = is-one.0

  place-is : slice_index_or all place no_piece ≡ piece
  place-is = get_or_default all place no_piece piece is-one.1 ∙ is-one.2

  -- a link leads to a component
  pub link-within : (d : ℕ) → piece.what ≡ Link d → d < length comps
  link-within d e =
      let home = piece-home split.0 comps split.1 (group_of s.lead) (length s.groups) kind all f.group place is-one.1 in
      link-in comps split.1.linked home.home d (home.place, (home.place_in, (like-parts (slice_index_or all place no_piece) (item_at comps home.home home.place) home.passes).0 ∙ (ap (λ (p : Piece). p.what) place-is ∙ e)))

  -- a component taken into the group in work
  module _ (d : ℕ) (to-d : piece.what ≡ Link d) (absorbed : IsAbsorbed comps s.lead kind d) (next : MergingState) (taken : IsTaken comps s next d) where
    out : group_of s.lead d ≢ length s.groups
    out e = absurd (omega (arith, f.few, absorbed.1, e))

    grown : IsGroup comps (group_of next.lead) (length s.groups) kind (s.done ++ reverse next.stack)
    grown =
        group-grows split.0 comps split.1 (group_of s.lead) (length s.groups) kind all f.group d place is-one.1 (ap (λ (p : Piece). p.what) place-is ∙ to-d) out (group_of next.lead) (s.done ++ reverse next.stack) absorbed.0 absorbed.2 taken.into taken.kept counts
      where
        counts : (t : Piece → Bool) → how_many t (s.done ++ reverse next.stack) + cond (t (slice_index_or all place no_piece)) 1 0 ≡ how_many t all + how_many (λ q. is_outer (group_of s.lead) (length s.groups) q.what && t q) (items_of comps d)
        counts t =
            let value : Piece → ℕ = λ p. cond (t p) 1 0 in
            let one : value (slice_index_or all place no_piece) ≡ value piece = ap value place-is in
            omega (arith, one, number-append t s.done (reverse next.stack), number-reverse t next.stack, taken.pushed t, number-append t s.done (reverse (s.stack ++ piece ∷ [])), number-reverse t (s.stack ++ piece ∷ []), number-append t s.stack (piece ∷ []), number-cons t piece [])

    pub taken-kept : KeepsLed s.lead next.lead
    taken-kept x h = taken.kept x (λ e. h (ap (group_of s.lead) e ∙ absorbed.1))

    -- where d is led now
    led-cases : (x : ℕ) → ((x ≡ d) × (group_of next.lead x ≡ length s.groups)) ⊎ (group_of next.lead x ≡ group_of s.lead x)
    led-cases x = elim (cases_eq x d) [ inl e ↦ inl (e, ap (group_of next.lead) e ∙ taken.into) | inr n ↦ inr (taken.kept x n) ]

    finished : AreFinished comps next.lead s.groups
    finished = record {
      each = λ j l. group-kept comps (group_of s.lead) (group_of next.lead) j d (component_at s.groups j).kind (items_of s.groups j) (f.finished.each j l) (λ e. absurd (omega (arith, f.few, absorbed.1, e, l))) (λ e. absurd (omega (arith, taken.into, e, l))) taken.kept;
      apart = f.finished.apart;
    }

    led-below : (x : ℕ) → IsLed next.lead x → group_of next.lead x ≤ length s.groups
    led-below x h = elim (led-cases x) [
      | inl e ↦ omega (arith, e.1)
      | inr e ↦ let o : group_of s.lead x ≤ length s.groups = f.led x (λ z. h (e ∙ z)) in omega (arith, o, e)
    ]

    still-led : (x : ℕ) → IsLed s.lead x → IsLed next.lead x
    still-led x h z = h (sym (taken-kept x h) ∙ z)

    still-live : AreLive comps next.lead next.live
    still-live = live-taken comps s.lead next.lead s.live next.live d f.live (subst (λ z. d < z) (sym f.places) (link-within d to-d)) taken.live taken.places (λ z. absurd (omega (arith, f.few, taken.into, z))) taken.kept

    plain : IsMerging comps kind (record { live = next.live; lead = next.lead; groups = s.groups; done = s.done; stack = next.stack })
    plain = record {
      live = still-live;
      places = taken.places ∙ f.places;
      few = f.few;
      led = led-below;
      finished = finished;
      group = grown;
      settled = λ q x c e m k. still-led x (f.settled q x c e m k);
    }

    same : record { live = next.live; lead = next.lead; groups = s.groups; done = s.done; stack = next.stack } ≡ next
    same = λ i. record { live = next.live; lead = next.lead; groups = sym taken.groups i; done = sym taken.done i; stack = next.stack }

    pub taken-merges : IsMerging comps kind next
    taken-merges = subst (IsMerging comps kind) same plain

    pub taken-falls : pieces_left comps next ≤ pieces_left comps s
    taken-falls =
        let w : ℕ → ℕ = λ x. cond (group_of s.lead x == absent) (length (items_of comps x)) 0 in
        let v : ℕ → ℕ = λ x. cond (group_of next.lead x == absent) (length (items_of comps x)) 0 in
        let sums : sum_below (length comps) v + w d ≡ sum_below (length comps) w + v d = sum-changed (length comps) w v d (link-within d to-d) (λ x l n. let of_number : ℕ → ℕ = λ z. cond (z == absent) (length (items_of comps x)) 0 in ap of_number (taken.kept x n)) in
        let of_test : Bool → ℕ = λ b. cond b (length (items_of comps d)) 0 in
        let at-d : w d ≡ length (items_of comps d) = ap of_test (eq-eqb (group_of s.lead d) absent absorbed.1) in
        let now-d : v d ≡ 0 = ap of_test (ne_eqb (group_of next.lead d) absent (λ z. absurd (omega (arith, f.few, taken.into, z)))) in
        let fewer : how_many (λ q. is_outer (group_of s.lead) (length s.groups) q.what && true) (items_of comps d) ≤ how_many (λ q. true) (items_of comps d) = number-weaker (λ q. is_outer (group_of s.lead) (length s.groups) q.what && true) (λ q. true) (items_of comps d) (λ q h. refl) in
        omega (arith, sums, at-d, now-d, fewer, taken.pushed (λ q. true), number-all no_piece (λ q. true) next.stack (λ i l. refl), number-all no_piece (λ q. true) s.stack (λ i l. refl), number-all no_piece (λ q. true) (items_of comps d) (λ i l. refl))

  -- a piece that was looked at
  pub done-merges : ((d : ℕ) → piece.what ≡ Link d → IsAbsorbed comps s.lead kind d → ⊥) → IsMerging comps kind (record { live = s.live; lead = s.lead; groups = s.groups; done = s.done ++ piece ∷ []; stack = s.stack })
  done-merges n = record {
    live = f.live;
    places = f.places;
    few = f.few;
    led = f.led;
    finished = f.finished;
    group = subst (IsGroup comps (group_of s.lead) (length s.groups) kind) next-first f.group;
    settled = λ q d c e m k. elim (Contains-append_cases s.done (piece ∷ []) q c) [
      | inl h ↦ f.settled q d h e m k
      | inr h ↦ elim (contains-cases q piece [] h) [
        | inl z ↦ λ x. n d (ap (λ (p : Piece). p.what) z ∙ e) (m, x, k)
        | inr z ↦ absurd (contains-none q z)
      ]
    ];
  }
