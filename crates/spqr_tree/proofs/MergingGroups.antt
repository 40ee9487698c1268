-- Groups are begun and finished.
use Rattle.std.proofs.Common.{◌≡◌, ℕ, ◌<◌, ◌≤◌, ◌⊎◌, inl, inr, List, [], ◌∷◌, ◌++◌, reverse, length, slice_index_or, refl, sym, ap, ◌∙◌, subst, arith}
use Rattle.std.proofs.lemmas.Bool.{cases_eq, cases_lt}
use Rattle.std.proofs.lemmas.List.{get_or_append_left, length-append, reverse-append, append-nil}
use Rattle.std.proofs.lemmas.List.Elements.{Contains-get_or}
use Rattle.std.proofs.Math.Seq.{get_or-append_seam}
use Rattle.pair_split.specs.Split.{component_at, items_of}
use Rattle.pair_split.specs.declared.components.Kind.{Kind}
use Rattle.pair_split.specs.declared.components.Kind.TheVariants.{B}
use Rattle.pair_split.specs.declared.components.Piece.{Piece}
use Rattle.pair_split.specs.declared.components.Comp.{Comp}
use Rattle.pair_split.proofs.Elements.{contains-none}
use Rattle.pair_split.proofs.Links.{no_piece}
use Rattle.spqr_tree.specs.Merged.{IsGroup, NoneAlike}
use Rattle.spqr_tree.specs.Merging.{AreLive, MergingState, group_of, IsLed, AreSplit, AreFinished, IsMerging, IsResting, IsStarted}
use Rattle.spqr_tree.proofs.LiveSteps.{live-taken}
use Rattle.spqr_tree.proofs.JoinedMerging.{group-kept, group-starts}
use Rattle.spqr_tree.proofs.JoinedApart.{alike-apart}
use Rattle.spqr_tree.specs.Absent.{absent}

-- a list twice turned round
reverse-twice : (pieces : List Piece) → reverse (reverse pieces) ≡ pieces
reverse-twice [] = refl
reverse-twice (q ∷ pieces) = ap reverse (reverse-append (q ∷ []) pieces) ∙ (reverse-append (reverse pieces) (q ∷ []) ∙ ap (λ (l : List Piece). q ∷ l) (reverse-twice pieces))

module _ (comps : List Comp) (split : AreSplit comps) where
  -- a group is begun
  module _ (s : MergingState) (r : IsResting comps s) (few : length s.groups < absent) (c : ℕ) (l : c < length comps) (none : group_of s.lead c ≡ absent) (next : MergingState) (started : IsStarted comps s next c) where
    pub started-led : IsLed next.lead c
    started-led z = absurd (omega (arith, few, started.into, z))

    alone : (x : ℕ) → x < length comps → group_of next.lead x ≡ length s.groups → x ≡ c
    alone x m e = elim (cases_eq x c) [
      | inl z ↦ z
      | inr n ↦
          let o : group_of s.lead x ≡ length s.groups = sym (started.kept x n) ∙ e in
          let h : group_of s.lead x < length s.groups = r.led x (λ z. absurd (omega (arith, few, o, z))) in
          absurd (omega (arith, o, h))
    ]

    begun : IsGroup comps (group_of next.lead) (length s.groups) (component_at comps c).kind (items_of comps c)
    begun = group-starts comps split.1.linked (group_of next.lead) (length s.groups) c l (split.1.of_kind.kinds c l) started.into alone

    led-below : (x : ℕ) → IsLed next.lead x → group_of next.lead x ≤ length s.groups
    led-below x h = elim (cases_eq x c) [
      | inl e ↦ let o : group_of next.lead x ≡ length s.groups = ap (group_of next.lead) e ∙ started.into in omega (arith, o)
      | inr n ↦ let o : group_of s.lead x < length s.groups = r.led x (λ z. h (started.kept x n ∙ z)) in omega (arith, o, started.kept x n)
    ]

    kept-groups : AreFinished comps next.lead s.groups
    kept-groups = record {
      each = λ j m. group-kept comps (group_of s.lead) (group_of next.lead) j c (component_at s.groups j).kind (items_of s.groups j) (r.finished.each j m) (λ e. absurd (omega (arith, few, none, e, m))) (λ e. absurd (omega (arith, started.into, e, m))) started.kept;
      apart = r.finished.apart;
    }

    items-are : items_of comps c ≡ [] ++ reverse (reverse (items_of comps c))
    items-are = sym (reverse-twice (items_of comps c))

    still-live : AreLive comps next.lead next.live
    still-live = live-taken comps s.lead next.lead s.live next.live c r.live (subst (λ z. c < z) (sym r.places) l) started.live started.places started-led started.kept

    plain : IsMerging comps (component_at comps c).kind (record { live = next.live; lead = next.lead; groups = s.groups; done = []; stack = reverse (items_of comps c) })
    plain = record {
      live = still-live;
      places = started.places ∙ r.places;
      few = few;
      led = led-below;
      finished = kept-groups;
      group = subst (IsGroup comps (group_of next.lead) (length s.groups) (component_at comps c).kind) items-are begun;
      settled = λ q d h. absurd (contains-none q h);
    }

    same : record { live = next.live; lead = next.lead; groups = s.groups; done = []; stack = reverse (items_of comps c) } ≡ next
    same = λ i. record { live = next.live; lead = next.lead; groups = sym started.groups i; done = sym (started.done ∙ r.none_done) i; stack = sym started.stack i }

    pub started-merges : IsMerging comps (component_at comps c).kind next
    started-merges = subst (IsMerging comps (component_at comps c).kind) same plain

  -- a group is finished
  module _ (kind : Kind) (s : MergingState) (f : IsMerging comps kind s) (empty : s.stack ≡ []) where
    abbrev lead : ℕ → ℕ
    lead = group_of s.lead

    whole : IsGroup comps lead (length s.groups) kind s.done
    whole = subst (IsGroup comps lead (length s.groups) kind) (ap (λ (z : List Piece). s.done ++ reverse z) empty ∙ append-nil s.done) f.group

    -- no piece leads to a component of the same kind
    apart : NoneAlike comps kind s.done
    apart = alike-apart split.0 comps split.1 lead (length s.groups) kind s.done whole
        (λ j l. ((component_at s.groups j).kind, items_of s.groups j, f.finished.each j l, f.finished.apart j l))
        (λ i d l e m same. f.led d (f.settled (slice_index_or s.done i no_piece) d (Contains-get_or s.done i no_piece l) e m same))

    abbrev no_comp : Comp
    no_comp = record { kind = B; items = [] }

    abbrev made : Comp
    made = record { kind = kind; items = s.done }

    finished-more : AreFinished comps s.lead (s.groups ++ made ∷ [])
    finished-more = record { each = λ j l. go j (cases_lt j (length s.groups)) l; apart = λ j l. go-apart j (cases_lt j (length s.groups)) l }
      where
        old : (j : ℕ) → j < length s.groups → component_at s.groups j ≡ component_at (s.groups ++ made ∷ []) j
        old j l = sym (get_or_append_left s.groups (made ∷ []) no_comp j l)

        last : (j : ℕ) → length s.groups ≤ j → j < length (s.groups ++ made ∷ []) → length s.groups ≡ j
        last j l h = omega (arith, length-append s.groups (made ∷ []), l, h)

        new : made ≡ component_at (s.groups ++ made ∷ []) (length s.groups)
        new = sym (get_or-append_seam s.groups made [] no_comp)

        go : (j : ℕ) → (j < length s.groups) ⊎ (length s.groups ≤ j) → j < length (s.groups ++ made ∷ []) → IsGroup comps lead j (component_at (s.groups ++ made ∷ []) j).kind (items_of (s.groups ++ made ∷ []) j)
        go j (inl l) h = subst (λ (c : Comp). IsGroup comps lead j c.kind c.items) (old j l) (f.finished.each j l)
        go j (inr l) h = subst (λ z. IsGroup comps lead z (component_at (s.groups ++ made ∷ []) z).kind (items_of (s.groups ++ made ∷ []) z)) (last j l h) (subst (λ (c : Comp). IsGroup comps lead (length s.groups) c.kind c.items) new whole)

        go-apart : (j : ℕ) → (j < length s.groups) ⊎ (length s.groups ≤ j) → j < length (s.groups ++ made ∷ []) → NoneAlike comps (component_at (s.groups ++ made ∷ []) j).kind (items_of (s.groups ++ made ∷ []) j)
        go-apart j (inl l) h = subst (λ (c : Comp). NoneAlike comps c.kind c.items) (old j l) (f.finished.apart j l)
        go-apart j (inr l) h = subst (λ z. NoneAlike comps (component_at (s.groups ++ made ∷ []) z).kind (items_of (s.groups ++ made ∷ []) z)) (last j l h) (subst (λ (c : Comp). NoneAlike comps c.kind c.items) new apart)

    pub finished-rests : (next : MergingState) → next.groups ≡ s.groups ++ made ∷ [] → next.done ≡ s.stack → next.live ≡ s.live → next.lead ≡ s.lead → next.stack ≡ [] → IsResting comps next
    finished-rests next groups done live table stack = subst (IsResting comps) (λ i. record { live = sym live i; lead = sym table i; groups = sym groups i; done = sym (done ∙ empty) i; stack = sym stack i }) (record {
      live = f.live;
      places = f.places;
      led = λ x h. let o : lead x ≤ length s.groups = f.led x h in omega (arith, length-append s.groups (made ∷ []), o);
      finished = finished-more;
      none_done = refl;
      none_left = refl;
    })
