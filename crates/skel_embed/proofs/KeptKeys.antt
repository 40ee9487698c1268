-- The keys of the choices of all nodes, as they are kept, in the first rotation system and in another one.
use Rattle.std.proofs.Common.{◌≡◌, ℕ, ◌<◌, Bool, true, List, [], length, map, slice_index_or, sym, ap, ◌∙◌, subst, arith}
use Rattle.std.specs.List.{concat}
use Rattle.std.proofs.lemmas.List.{length-map, get_or-map, ext_get_or}
use Rattle.multigraph.specs.Graph.{numbers_below}
use Rattle.multigraph.proofs.Below.{get_or-numbers_below, length-numbers_below}
use Rattle.pair_split.specs.Tutte.{Node}
use Rattle.faces.specs.Euler.{IsPlaneSystem}
use Rattle.skeletons.specs.Choices.{choice}
use Rattle.skeletons.specs.Families.{system_at, FollowsFamily}
use Rattle.skeletons.specs.Items.{IsBlockTree}
use Rattle.multigraph.specs.Graph.{Multigraph}
use Rattle.skeletons.specs.Lists.{KeepsChoices}
use Rattle.skel_embed.specs.Block.{BlockState, lock_at, IsBlockState, AreChoices, choices_by}
use Rattle.skel_embed.specs.First.{choice_in}
use Rattle.skel_embed.specs.Flat.{ends_from, lists_in, AreFlat}
use Rattle.skel_embed.specs.Outcomes.{choices_in}
use Rattle.skel_embed.specs.Taken.{IsLeastOther, NoneOther, IsFirstOther}
use Rattle.skel_embed.proofs.First.{choice-followed}
use Rattle.skel_embed.proofs.Flat.{ends-alike, flat-view, flat-again}
use Rattle.skel_embed.proofs.RunKeys.{choice-long}

-- a list for each number
listed : (f : ℕ → List ℕ) (n k : ℕ) → k < n → slice_index_or (map f (numbers_below n)) k [] ≡ f k
listed f n k l = get_or-map f (numbers_below n) k 0 [] (subst (λ m. k < m) (sym (length-numbers_below n)) l) ∙ ap f (get_or-numbers_below n k 0 l)

listed-many : (f : ℕ → List ℕ) (n : ℕ) → length (map f (numbers_below n)) ≡ n
listed-many f n = length-map (numbers_below n) f ∙ length-numbers_below n

-- the choices of a rotation system
pub choices-by_at : (nodes : List Node) (r : List (List ℕ)) (k : ℕ) → k < length nodes → slice_index_or (choices_by nodes r) k [] ≡ choice nodes r k
choices-by_at nodes r k l = listed (choice nodes r) (length nodes) k l

pub choices-by_many : (nodes : List Node) (r : List (List ℕ)) → length (choices_by nodes r) ≡ length nodes
choices-by_many nodes r = listed-many (choice nodes r) (length nodes)

pub choices-by_are : (nodes : List Node) (r : List (List ℕ)) → AreChoices nodes r (length nodes) (choices_by nodes r)
choices-by_are nodes r = record { each = choices-by_many nodes r; is = choices-by_at nodes r }

-- those that a family gives
pub choices-in_at : (nodes : List Node) (family : List (List (List ℕ))) (k : ℕ) → k < length nodes → slice_index_or (choices_in nodes family) k [] ≡ choice_in nodes k (system_at family k)
choices-in_at nodes family k l = listed (λ j. choice_in nodes j (system_at family j)) (length nodes) k l

pub choices-in_many : (nodes : List Node) (family : List (List (List ℕ))) → length (choices_in nodes family) ≡ length nodes
choices-in_many nodes family = listed-many (λ j. choice_in nodes j (system_at family j)) (length nodes)

-- are those of what follows it
pub first-kept : (g : Multigraph) (nodes : List Node) (b : IsBlockTree g nodes) (family : List (List (List ℕ))) (r : List (List ℕ)) → FollowsFamily nodes family r → (keys ends : List ℕ) → AreFlat (choices_in nodes family) keys ends → AreChoices nodes r (length nodes) (lists_in keys ends)
first-kept g nodes b family r h keys ends f = subst (AreChoices nodes r (length nodes)) (sym (flat-view (choices_in nodes family) keys ends f))
    (record { each = choices-in_many nodes family; is = λ k l. choices-in_at nodes family k l ∙ sym (choice-followed g nodes b family r h k l) })

-- so they are the choices of what follows it
pub choices-followed : (g : Multigraph) (nodes : List Node) (b : IsBlockTree g nodes) (family : List (List (List ℕ))) (r : List (List ℕ)) → FollowsFamily nodes family r → choices_in nodes family ≡ choices_by nodes r
choices-followed g nodes b family r h = ext_get_or [] (choices_in nodes family) (choices_by nodes r) (choices-in_many nodes family ∙ sym (choices-by_many nodes r)) (λ k l.
    let m : k < length nodes = subst (λ n. k < n) (choices-in_many nodes family) l in
    choices-in_at nodes family k m ∙ sym (choice-followed g nodes b family r h k m) ∙ sym (choices-by_at nodes r k m))

-- the kept choices are those of the rotation system
pub kept-are : (s : BlockState) → IsBlockState s → s.choices ≡ choices_by s.tree s.rotation
kept-are s is = ext_get_or [] s.choices (choices_by s.tree s.rotation) (is.choices.each ∙ sym (choices-by_many s.tree s.rotation)) (λ k l.
    let m : k < length s.tree = subst (λ n. k < n) is.choices.each l in
    is.choices.is k m ∙ sym (choices-by_at s.tree s.rotation k m))

module _ (s : BlockState) (is : IsBlockState s) (q : List (List ℕ)) (p : IsPlaneSystem s.graph q) where
  -- the choices of another plane rotation system end where those of the present one do
  same-ends : ends_from 0 (choices_by s.tree q) ≡ ends_from 0 s.choices
  same-ends = ends-alike (choices_by s.tree q) s.choices 0 (choices-by_many s.tree q ∙ sym is.choices.each) (λ k l. long k (subst (λ n. k < n) (choices-by_many s.tree q) l))
    where
      long : (k : ℕ) → k < length s.tree → length (slice_index_or (choices_by s.tree q) k []) ≡ length (slice_index_or s.choices k [])
      long k l = ap length (choices-by_at s.tree q k l) ∙ choice-long s.graph s.tree is.block q s.rotation p is.plane k l ∙ ap length (sym (is.choices.is k l))

  module _ (keys now ends : List ℕ) (f : AreFlat s.choices now ends) (e : keys ≡ concat (choices_by s.tree q)) where
    -- so they are kept with the same ends
    pub other-flat : AreFlat (choices_by s.tree q) keys ends
    other-flat = record { keys_are = e; ends_are = f.ends_are ∙ sym same-ends }

    pub other-view : lists_in keys ends ≡ choices_by s.tree q
    other-view = flat-view (choices_by s.tree q) keys ends other-flat

    pub other-kept : AreFlat (lists_in keys ends) keys ends
    other-kept = flat-again (choices_by s.tree q) keys ends other-flat

    -- and the block is one in the plane
    pub other-state : IsBlockState (record { graph = s.graph; tree = s.tree; rotation = q; choices = lists_in keys ends; locks = s.locks })
    other-state = record {
      block = is.block;
      plane = p;
      choices = subst (AreChoices s.tree q (length s.tree)) (sym other-view) (choices-by_are s.tree q);
      locks = is.locks;
    }

  -- which locked nodes have another choice in it
  module _ (locks : List Bool) (old new : List (List ℕ)) (k_is : locks ≡ s.locks) (o_is : old ≡ s.choices) (n_is : new ≡ choices_by s.tree q) where
    told : (k : ℕ) → k < length s.tree → (slice_index_or new k [] ≡ choice s.tree q k) × (slice_index_or old k [] ≡ choice s.tree s.rotation k)
    told k l = (ap (λ (z : List (List ℕ)). slice_index_or z k []) n_is ∙ choices-by_at s.tree q k l, ap (λ (z : List (List ℕ)). slice_index_or z k []) o_is ∙ is.choices.is k l)

    in-locks : (k : ℕ) → k < length s.tree → k < length locks
    in-locks k l = subst (λ n. k < n) (sym (ap length k_is ∙ is.locks)) l

    in-tree : (k : ℕ) → k < length locks → k < length s.tree
    in-tree k l = subst (λ n. k < n) (ap length k_is ∙ is.locks) l

    locked-there : (k : ℕ) → lock_at s.locks k ≡ true → lock_at locks k ≡ true
    locked-there k h = ap (λ (z : List Bool). lock_at z k) k_is ∙ h

    pub none-other : NoneOther locks old new → KeepsChoices s.tree (λ k. lock_at s.locks k) s.rotation q
    none-other h k l on = sym (told k l).0 ∙ h k (in-locks k l) (locked-there k on) ∙ (told k l).1

    pub least-other : (k : ℕ) → IsFirstOther locks old new k → IsLeastOther s q k
    least-other k f =
        let l : k < length s.tree = in-tree k f.within in
        record {
          within = l;
          locked = ap (λ (z : List Bool). lock_at z k) (sym k_is) ∙ f.locked;
          other = λ e. f.other ((told k l).0 ∙ e ∙ sym (told k l).1);
          none_before = λ j m on. let n : j < length s.tree = omega (arith, l, m) in sym (told j n).0 ∙ f.none_before j m (locked-there j on) ∙ (told j n).1;
        }
