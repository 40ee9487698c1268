-- What is kept of arrangements: another list at a cut vertex, and lists that are arrangements.
use Rattle.std.proofs.Common.{◌≡◌, ◌≢◌, ℕ, ◌<◌, true, false, List, [], length, map, slice_index, slice_index_or, slice_set, Option, None, Some, inl, inr, sym, ap, ◌∙◌, subst, arith, Contains}
use Rattle.std.specs.Prelude.{if◌then◌else◌}
use Rattle.std.proofs.lemmas.Bool.{cases_eq, both_ways, false_from_ne_true}
use Rattle.std.proofs.lemmas.List.{length-map, length-set, get_or-map, get_or-set_same, get_or-set_other, ext_get_or}
use Rattle.permutations.specs.Members.{is_member, place_of}
use Rattle.permutations.proofs.Arrangements.{member-at}
use Rattle.permutations.proofs.Places.{place-below, place-holds}
use Rattle.multigraph.specs.Graph.{numbers_below}
use Rattle.multigraph.specs.Part.{Rises}
use Rattle.multigraph.proofs.Below.{length-numbers_below, get_or-numbers_below}
use Rattle.rotations.specs.Rotation.{IsCyclicOrder}
use Rattle.arrangements.specs.Arranged.{IsArrangement}
use Rattle.arrangements.proofs.Laws.{arrangements_are_listed}
use Rattle.whole_embed.specs.Component.{Component, BlockInPlane, IsComponentInPlane}
use Rattle.whole_embed.specs.Around.{edges_around, block_with, block_order, arrangements_around}
use Rattle.whole_embed.specs.Whole.{AreArranged}
use Rattle.whole_embed.specs.Walk.{first_around}
use Rattle.whole_embed.proofs.Assembly.{assembled}
use Rattle.whole_embed.proofs.Components.{cut-in, vertex-in, cuts-rise}
use Rattle.whole_embed.proofs.Outer.{place-rising}
use Rattle.spqr_session.specs.Setting.{Setting, IsSetting}
use Rattle.spqr_session.specs.State.{Family, arrangements_in, component_at, is_planar_component, blocks_with}
use Rattle.spqr_session.specs.Kept.{Kept, list_or_first, lists_kept, arrangements_kept, family_of}
use Rattle.spqr_session.specs.Commands.Regroup.{component_number, lists_put, list_put}
use Rattle.spqr_session.proofs.ComponentParts.{component-below, cut-there, kept-arrangements, kept-lists}

-- a list for each number below n
pub lists-at : (f : ℕ → List ℕ) (n i : ℕ) → i < n → slice_index_or (map f (numbers_below n)) i [] ≡ f i
lists-at f n i l = get_or-map f (numbers_below n) i 0 [] (omega (arith, l, length-numbers_below n)) ∙ ap f (get_or-numbers_below n i 0 l)

pub lists-count : (f : ℕ → List ℕ) (n : ℕ) → length (map f (numbers_below n)) ≡ n
lists-count f n = length-map (numbers_below n) f ∙ length-numbers_below n

-- lists of which each is so
pub lists-are : (f : ℕ → List ℕ) (n : ℕ) (lists : List (List ℕ)) → length lists ≡ n → ((i : ℕ) → i < n → slice_index_or lists i [] ≡ f i) → lists ≡ map f (numbers_below n)
lists-are f n lists long each = ext_get_or [] lists (map f (numbers_below n)) (long ∙ sym (lists-count f n)) (λ i l.
    let m : i < n = subst (λ (z : ℕ). i < z) long l in each i m ∙ sym (lists-at f n i m))

module _ (k : Component) (block : ℕ → BlockInPlane) (lists : List (Option (List ℕ))) where
  -- the list at the cut vertex at place i
  abbrev kept_at : ℕ → List ℕ
  kept_at i = list_or_first (slice_index_or lists (slice_index k.cuts i) None) (first_around k block i)

  pub kept-count : length (lists_kept k block lists) ≡ length k.cuts
  kept-count = lists-count kept_at (length k.cuts)

  pub kept-at : (i : ℕ) → i < length k.cuts → slice_index_or (lists_kept k block lists) i [] ≡ list_or_first (slice_index_or lists (slice_index k.cuts i) None) (first_around k block i)
  kept-at i l = lists-at kept_at (length k.cuts) i l

  -- lists of which each is so are those that are kept
  pub kept-is : (all : List (List ℕ)) → length all ≡ length k.cuts → ((i : ℕ) → i < length k.cuts → slice_index_or all i [] ≡ list_or_first (slice_index_or lists (slice_index k.cuts i) None) (first_around k block i)) → all ≡ lists_kept k block lists
  kept-is all n each = lists-are kept_at (length k.cuts) all n each

module _ (k : Component) (block : ℕ → BlockInPlane) (lists : List (Option (List ℕ))) (v : ℕ) (l : List ℕ) where
  -- another list at a vertex that is no cut vertex of the component changes nothing
  pub kept-elsewhere : is_member v k.cuts ≡ false → lists_kept k block (slice_set lists v (Some l)) ≡ lists_kept k block lists
  kept-elsewhere n = kept-is k block lists (lists_kept k block (slice_set lists v (Some l))) (kept-count k block (slice_set lists v (Some l))) (λ i h.
      kept-at k block (slice_set lists v (Some l)) i h
      ∙ ap (λ (o : Option (List ℕ)). list_or_first o (first_around k block i)) (get_or-set_other lists v (slice_index k.cuts i) (Some l) None (other i h)))
    where
      other : (i : ℕ) → i < length k.cuts → slice_index k.cuts i ≢ v
      other i h e = both_ways (is_member v k.cuts) n (subst (λ (z : ℕ). is_member z k.cuts ≡ true) e (member-at k.cuts i 0 h))

  -- at a cut vertex it is the list there
  pub kept-there : Rises k.cuts → is_member v k.cuts ≡ true → v < length lists → lists_kept k block (slice_set lists v (Some l)) ≡ slice_set (lists_kept k block lists) (place_of k.cuts v) l
  kept-there rise m within = sym (kept-is k block (slice_set lists v (Some l)) (slice_set (lists_kept k block lists) (place_of k.cuts v) l)
      (length-set (lists_kept k block lists) (place_of k.cuts v) l ∙ kept-count k block lists) (λ i h. elim (cases_eq i (place_of k.cuts v)) [
        | inl e ↦
            ap (λ (z : ℕ). slice_index_or (slice_set (lists_kept k block lists) (place_of k.cuts v) l) z []) e
            ∙ get_or-set_same (lists_kept k block lists) (place_of k.cuts v) l [] (omega (arith, place-below k.cuts v m, kept-count k block lists))
            ∙ sym (ap (λ (o : Option (List ℕ)). list_or_first o (first_around k block i)) (here i e))
        | inr n ↦
            get_or-set_other (lists_kept k block lists) (place_of k.cuts v) i l [] n
            ∙ kept-at k block lists i h
            ∙ sym (ap (λ (o : Option (List ℕ)). list_or_first o (first_around k block i)) (get_or-set_other lists v (slice_index k.cuts i) (Some l) None (other i h n)))
      ]))
    where
      here : (i : ℕ) → i ≡ place_of k.cuts v → slice_index_or (slice_set lists v (Some l)) (slice_index k.cuts i) None ≡ Some l
      here i e =
          let at : slice_index k.cuts i ≡ v = ap (slice_index k.cuts) e ∙ place-holds k.cuts v m in
          ap (λ (z : ℕ). slice_index_or (slice_set lists v (Some l)) z None) at ∙ get_or-set_same lists v (Some l) None within

      other : (i : ℕ) → i < length k.cuts → i ≢ place_of k.cuts v → slice_index k.cuts i ≢ v
      other i h n e = n (sym (place-rising k.cuts i rise h) ∙ ap (place_of k.cuts) e)

-- what is kept with a list for a cut vertex is of the family with this list
pub kept-put : (setting : Setting) (kept : Kept) (v : ℕ) (l : List ℕ) → IsSetting setting → is_member v setting.structure.cut_vertices ≡ true → is_planar_component setting (component_number setting v) ≡ true → v < length kept.lists
    → family_of setting (record { entries = kept.entries; lists = slice_set kept.lists v (Some l) }) ≡ list_put setting v l (family_of setting kept)
kept-put setting kept v l is m t within = λ i. record { entries = kept.entries; arrangements = same i }
  where
    at : ℕ
    at = component_number setting v

    new : Kept
    new = record { entries = kept.entries; lists = slice_set kept.lists v (Some l) }

    old : Family
    old = family_of setting kept

    block : ℕ → BlockInPlane
    block = blocks_with setting.trees kept.entries

    n : ℕ
    n = setting.structure.component_count

    below : component_number setting v < setting.structure.component_count
    below = component-below setting is v (is.structure.cut_vertices.vertices v m)

    put : Option (List (List ℕ))
    put = lists_put (component_at setting (component_number setting v)) v l (arrangements_in (family_of setting kept) (component_number setting v))

    count : (x : Kept) → length (map (arrangements_kept setting x) (numbers_below setting.structure.component_count)) ≡ setting.structure.component_count
    count x = length-map (numbers_below n) (arrangements_kept setting x) ∙ length-numbers_below n

    here : arrangements_in (family_of setting new) at ≡ put
    here =
        kept-lists setting new at below t
        ∙ ap (λ (ls : List (List ℕ)). Some ls) (kept-there (component_at setting at) block kept.lists v l (cuts-rise setting.named.graph setting.structure at is.structure) (cut-there setting is v m) within)
        ∙ sym (ap (lists_put (component_at setting at) v l) (kept-lists setting kept at below t))

    -- a vertex of one component is none of another
    apart : (c : ℕ) → c ≢ at → is_member v (component_at setting c).cuts ≡ false
    apart c d = false_from_ne_true (is_member v (component_at setting c).cuts) (λ w. d (sym (vertex-in setting.named.graph setting.structure c is.structure v (cut-in setting.named.graph setting.structure c is.structure v w)).1))

    elsewhere : (c : ℕ) → c < n → c ≢ at → arrangements_in (family_of setting new) c ≡ arrangements_in (family_of setting kept) c
    elsewhere c h d =
        kept-arrangements setting new c h
        ∙ ap (λ (ls : List (List ℕ)). if is_planar_component setting c then Some ls else None) (kept-elsewhere (component_at setting c) block kept.lists v l (apart c d))
        ∙ sym (kept-arrangements setting kept c h)

    same : map (arrangements_kept setting new) (numbers_below n) ≡ slice_set (family_of setting kept).arrangements at put
    same = ext_get_or None (map (arrangements_kept setting new) (numbers_below n)) (slice_set old.arrangements at put) (count new ∙ sym (length-set old.arrangements at put ∙ count kept)) (λ c h.
        let w : c < n = subst (λ (z : ℕ). c < z) (count new) h in elim (cases_eq c at) [
          | inl e ↦
              ap (arrangements_in (family_of setting new)) e ∙ here ∙ sym (get_or-set_same old.arrangements at put None (omega (arith, below, count kept))) ∙ ap (λ (z : ℕ). slice_index_or (slice_set old.arrangements at put) z None) (sym e)
          | inr d ↦ elsewhere c w d ∙ sym (get_or-set_other old.arrangements at c put None d)
        ])

-- an arrangement is a cyclic order of the edges
pub arranged-order : (k : Component) (block : ℕ → BlockInPlane) (v : ℕ) (l : List ℕ) → IsComponentInPlane k block → is_member v k.cuts ≡ true → Contains (arrangements_around k block v) l → IsCyclicOrder (edges_around k v) l
arranged-order k block v l w m h =
    let a = assembled k block w in
    let x : IsArrangement (block_with k) (block_order block v) (edges_around k v) l = ((arrangements_are_listed (block_with k) (block_order block v) (edges_around k v) (a.orders v (a.cuts_in v m))).exactly l).0 h in
    record { arranged = x.all; least_first = x.least_first }

-- so is each list that is kept, where those of the component are arrangements
pub kept-order : (k : Component) (block : ℕ → BlockInPlane) (lists : List (Option (List ℕ))) → IsComponentInPlane k block → AreArranged k block (lists_kept k block lists) → (i : ℕ) (l : List ℕ) → i < length k.cuts
    → slice_index_or lists (slice_index k.cuts i) None ≡ Some l → IsCyclicOrder (edges_around k (slice_index k.cuts i)) l
kept-order k block lists w are i l h e = arranged-order k block (slice_index k.cuts i) l w (member-at k.cuts i 0 h)
    (subst (Contains (arrangements_around k block (slice_index k.cuts i))) (kept-at k block lists i h ∙ ap (λ (o : Option (List ℕ)). list_or_first o (first_around k block i)) e) (are.each i h))
