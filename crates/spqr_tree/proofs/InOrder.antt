-- Groups in order of their vertices, numbered by their places, are split components in their order.
use Rattle.std.proofs.Common.{◌≡◌, ◌≢◌, ℕ, ◌+◌, ◌<◌, ◌==◌, ◌||◌, inl, inr, Bool, true, List, [], ◌∷◌, length, map, slice_index_or, refl, sym, ap, ap₂, ◌∙◌, subst, arith}
use Rattle.std.proofs.lemmas.Bool.{cases_Bool, cases_lt}
use Rattle.std.proofs.lemmas.List.{get_or-map, length-map}
use Rattle.std.proofs.lemmas.List.Elements.{Contains-get_or}
use Rattle.permutations.specs.Members.{is_member}
use Rattle.multigraph.specs.Graph.{Multigraph}
use Rattle.graph_theory.specs.Block.{IsOneBlock}
use Rattle.pair_split.specs.Skeleton.{is_end_of, is_vertex}
use Rattle.pair_split.specs.Split.{component_at, items_of, item_at, piece_ends, LinksTo, IsSplit}
use Rattle.pair_split.specs.Tutte.{is_before}
use Rattle.pair_split.specs.declared.components.Kind.TheVariants.{S, P, B}
use Rattle.pair_split.specs.declared.components.Piece.{Piece}
use Rattle.pair_split.specs.declared.components.Comp.{Comp}
use Rattle.pair_split.proofs.GraphFamily.{one_block-tight}
use Rattle.pair_split.proofs.Links.{no_piece}
use Rattle.pair_split.proofs.Subtrees.{link-in}
use Rattle.spqr_tree.specs.Merged.{how_many, relinked, redirect, IsSymmetric, AreGroups, AreRearranged}
use Rattle.spqr_tree.specs.Merging.{group_of, AreFinished}
use Rattle.spqr_tree.specs.Ranking.{Rank, rank_at, AreVertices, AreRanked, ArePlaces, value_at, placed, placed_group, in_order}
use Rattle.spqr_tree.specs.Keys.{AreWithin}
use Rattle.spqr_tree.specs.Assembly.{IsArranged}
use Rattle.spqr_tree.proofs.MergeCounts.{number-ext, number-map}
use Rattle.spqr_tree.proofs.JoinedGrows.{like-parts, piece-home}
use Rattle.spqr_tree.proofs.JoinedApart.{others-apart}
use Rattle.spqr_tree.proofs.RearrangedSplit.{rearranged-split}
use Rattle.spqr_tree.proofs.SameVertices.{same-vertices}
use Rattle.spqr_tree.proofs.Ranks.{no_rank}
use Rattle.spqr_tree.specs.Absent.{absent}

-- a piece with its lesser end first passes what the piece passes
placed-passes : (turn : ℕ → ℕ) (t : Piece → Bool) → IsSymmetric t → (p : Piece) → t (placed turn p) ≡ t (redirect turn p)
placed-passes turn t q p = elim (cases_lt p.a p.b) [
  | inl l ↦ ap₂ (λ (x y : ℕ). t (record { a = x; b = y; what = relinked turn p.what })) (omega (arith, l)) (omega (arith, l))
  | inr l ↦ ap₂ (λ (x y : ℕ). t (record { a = x; b = y; what = relinked turn p.what })) (omega (arith, l)) (omega (arith, l)) ∙ q p.b p.a (relinked turn p.what)
]

-- and has the same ends
placed-end : (turn : ℕ → ℕ) (v : ℕ) (p : Piece) → is_end_of v (piece_ends (placed turn p)) ≡ is_end_of v (piece_ends p)
placed-end turn v p = elim (cases_lt p.a p.b) [
  | inl l ↦ ap₂ (λ (x y : ℕ). (x == v) || (y == v)) (omega (arith, l)) (omega (arith, l))
  | inr l ↦ ap₂ (λ (x y : ℕ). (x == v) || (y == v)) (omega (arith, l)) (omega (arith, l)) ∙ swap (p.b == v) (p.a == v)
]
  where
    swap : (x y : Bool) → (x || y) ≡ (y || x)
    swap x y = grind (arith, cases_Bool x, cases_Bool y)

placed-vertices : (turn : ℕ → ℕ) (v : ℕ) (pieces : List Piece) → is_vertex (map piece_ends (map (placed turn) pieces)) v ≡ is_vertex (map piece_ends pieces) v
placed-vertices turn v [] = refl
placed-vertices turn v (p ∷ pieces) = ap₂ (λ (x y : Bool). x || y) (placed-end turn v p) (placed-vertices turn v pieces)

module _ (g : Multigraph) (one : IsOneBlock g) (comps : List Comp) (split : IsSplit g comps) (lead : List ℕ) (groups : List Comp) (grouped : AreGroups comps (group_of lead) groups) (finished : AreFinished comps lead groups)
    (few : length groups < absent) (ranks : List Rank) (r : AreRanked groups ranks) (places : List ℕ) (p : ArePlaces ranks places) where
  abbrev π : ℕ → ℕ
  π k = value_at places k

  abbrev turn : ℕ → ℕ
  turn x = π (group_of lead x)

  abbrev others : List Comp
  others = in_order turn groups ranks

  abbrev no_comp : Comp
  no_comp = record { kind = B; items = [] }

  long : length others ≡ length ranks
  long = length-map ranks (λ (rank : Rank). placed_group turn (component_at groups rank.1))

  other-is : (i : ℕ) → i < length ranks → component_at others i ≡ placed_group turn (component_at groups (rank_at ranks i).1)
  other-is i l = get_or-map (λ (rank : Rank). placed_group turn (component_at groups rank.1)) ranks i no_rank no_comp l

  rank-group : (i : ℕ) → i < length ranks → ((rank_at ranks i).1 < length groups) × AreVertices (items_of groups (rank_at ranks i).1) (rank_at ranks i).0
  rank-group i l = r.vertices (rank_at ranks i) (Contains-get_or ranks i no_rank l)

  place-of : (k : ℕ) → k < length groups → (i : ℕ) × (i < length ranks) × ((rank_at ranks i).1 ≡ k) × (π k ≡ i)
  place-of k l = let w = r.all k l in (w.0, w.1, w.2, subst (λ z. π z ≡ w.0) w.2 (p w.0 w.1))

  group-placed : (k : ℕ) → k < length groups → component_at others (π k) ≡ placed_group turn (component_at groups k)
  group-placed k l = let w = place-of k l in ap (component_at others) w.3 ∙ (other-is w.0 w.1 ∙ ap (λ z. placed_group turn (component_at groups z)) w.2)

  rearranged : AreRearranged (group_of lead) π groups others
  rearranged = record {
    number = long ∙ r.number;
    into = λ k l. let w = place-of k l in subst (λ z. z < length groups) (sym w.3) (subst (λ z. w.0 < z) r.number w.1);
    differ = λ k j l m e. let w = place-of k l in let v = place-of j m in sym w.2 ∙ (ap (λ z. (rank_at ranks z).1) (sym w.3 ∙ (e ∙ v.3)) ∙ v.2);
    onto = λ h l. let m : h < length ranks = subst (λ z. h < z) (sym r.number) l in ((rank_at ranks h).1, (rank-group h m).0, p h m);
    kinds = λ k l. ap (λ (c : Comp). c.kind) (group-placed k l);
    pieces = λ k t l q. ap (λ (c : Comp). how_many t c.items) (group-placed k l) ∙ (number-map (placed turn) t (items_of groups k) ∙ number-ext (λ x. t (placed turn x)) (λ x. t (redirect turn x)) (items_of groups k) (placed-passes turn t q));
  }

  placed-split : IsSplit g others
  placed-split = rearranged-split g comps (group_of lead) π groups others split grouped rearranged

  no-polygons : (h j : ℕ) → LinksTo others h j → (component_at others h).kind ≡ S → (component_at others j).kind ≡ S → ⊥
  no-polygons = others-apart g comps split (group_of lead) π groups others grouped rearranged finished.apart S (inl refl)

  no-bonds : (h j : ℕ) → LinksTo others h j → (component_at others h).kind ≡ P → (component_at others j).kind ≡ P → ⊥
  no-bonds = others-apart g comps split (group_of lead) π groups others grouped rearranged finished.apart P (inr refl)

  in-ranks : (k : ℕ) → k < length others → k < length ranks
  in-ranks k l = subst (λ z. k < z) long l

  other-items : (k : ℕ) → k < length others → items_of others k ≡ map (placed turn) (items_of groups (rank_at ranks k).1)
  other-items k l = ap (λ (c : Comp). c.items) (other-is k (in-ranks k l))

  vertices : (k : ℕ) → k < length others → AreVertices (items_of others k) (rank_at ranks k).0
  vertices k l = let w = (rank-group k (in-ranks k l)).1 in record {
    rising = w.rising;
    members = λ v. w.members v ∙ (sym (placed-vertices turn v (items_of groups (rank_at ranks k).1)) ∙ ap (λ (m : List Piece). is_vertex (map piece_ends m) v) (sym (other-items k l)));
  }

  rise : (k : ℕ) → k + 1 < length others → is_before (rank_at ranks k).0 (rank_at ranks (k + 1)).0 ≡ true
  rise k l = elim (r.sorted k (in-ranks (k + 1) l)) [
    | inl b ↦ b
    | inr e ↦ absurd (same-vertices g others placed-split (one_block-tight g one) no-polygons no-bonds k (k + 1) (omega (arith, l)) l
        (λ v. sym ((vertices k (omega (arith, l))).members v) ∙ (ap (is_member v) e ∙ (vertices (k + 1) l).members v)) (λ q. absurd (omega (arith, q))))
  ]

  -- the ends of a piece of a group differ
  ends-differ : (k i : ℕ) → k < length groups → i < length (items_of groups k) → (item_at groups k i).a ≢ (item_at groups k i).b
  ends-differ k i l m e =
      (grouped.each k l).of_kind.no_loops i (0, 0) (subst (λ z. i < z) (sym (length-map (items_of groups k) piece_ends)) m)
      (let q : slice_index_or (map piece_ends (items_of groups k)) i (0, 0) ≡ piece_ends (item_at groups k i) = get_or-map piece_ends (items_of groups k) i no_piece (0, 0) m in
      ap (λ (z : ℕ × ℕ). z.0) q ∙ (e ∙ sym (ap (λ (z : ℕ × ℕ). z.1) q)))

  ends-rise : (k i : ℕ) → k < length others → i < length (items_of others k) → (item_at others k i).a < (item_at others k i).b
  ends-rise k i l m =
      let j = (rank_at ranks k).1 in
      let at : i < length (items_of groups j) = subst (λ z. i < z) (ap length (other-items k l) ∙ length-map (items_of groups j) (placed turn)) m in
      let is : item_at others k i ≡ placed turn (item_at groups j i) = ap (λ (z : List Piece). slice_index_or z i no_piece) (other-items k l) ∙ get_or-map (placed turn) (items_of groups j) i no_piece no_piece at in
      let d : (item_at groups j i).a ≢ (item_at groups j i).b = ends-differ j i (rank-group k (in-ranks k l)).0 at in
      subst (λ (z : Piece). z.a < z.b) (sym is) (omega (arith, d))

  pub arranged : IsArranged g others ranks
  arranged = record {
    split = placed-split;
    no_polygons = no-polygons;
    no_bonds = no-bonds;
    number = sym long;
    few = subst (λ z. z < absent) (sym (long ∙ r.number)) few;
    vertices = vertices;
    rise = rise;
    ends_rise = ends-rise;
  }

-- the number of each rank is below the number of the ranks
pub ranks-within : (groups : List Comp) (ranks : List Rank) → AreRanked groups ranks → (i : ℕ) → i < length ranks → (rank_at ranks i).1 < length groups
ranks-within groups ranks r i l = (r.vertices (rank_at ranks i) (Contains-get_or ranks i no_rank l)).0

-- the links of a group lead to components
pub group-within : (g : Multigraph) (comps : List Comp) (split : IsSplit g comps) (lead : ℕ → ℕ) (groups : List Comp) → AreGroups comps lead groups → (k : ℕ) → k < length groups → AreWithin (items_of groups k) (length comps)
group-within g comps split lead groups grouped k l i j m e =
    let home = piece-home g comps split lead k (component_at groups k).kind (items_of groups k) (grouped.each k l) i m in
    link-in comps split.linked home.home j (home.place, (home.place_in, (like-parts (slice_index_or (items_of groups k) i no_piece) (item_at comps home.home home.place) home.passes).0 ∙ e))
