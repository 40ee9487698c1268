-- No item more: how far the bytes still go on to a document, and that they do so no further.
use Rattle.std.proofs.Common.{◌≡◌, ℕ, ◌+◌, ◌<◌, ◌≤◌, true, false, List, [], ◌∷◌, ◌++◌, length, refl, sym, ap, subst, ◌∙◌, inl, inr, arith, append_assoc, Bor}
use Rattle.std.proofs.lemmas.List.{append-nil}
use Rattle.gml_text.specs.Document.{Document, empty, append, depth}
use Rattle.gml_text.specs.Grammar.{is_gap, is_behind_word, KeyStands, OpenStands, CloseStands, PairsStand}
use Rattle.gml_text.specs.Reading.{Follows}
use Rattle.gml_text.specs.Items.{ItemStands}
use Rattle.gml_text.specs.Breaks.{WholePair, PairBreaks}
use Rattle.gml_text.specs.Partial.{Frame, plug, Completes, frames_of, pairs_of, IsPartial, CanFinish, NeverFinishes, IsRefused, IsTooDeep}
use Rattle.gml_text.specs.declared.partial.Partial.{Partial}
use Rattle.gml_text.specs.declared.item.Found.{Found}
use Rattle.gml_text.specs.declared.item.Found.TheVariants.{Number, Text, Open}
use Rattle.gml_text.specs.declared.item.Item.TheVariants.{Pair}
use Rattle.gml_text.proofs.OtherRest.{alike_front, key_before, key_split, key_some}
use Rattle.gml_text.proofs.Closing.{gap_line, brackets, brackets_behind, completes_closed, flat_pair}
use Rattle.gml_text.proofs.Completes.{same_open, stuck_completes, over_open, close_none}
use Rattle.gml_text.proofs.Depth.{completes_depth}
use Rattle.gml_text.proofs.Steps.{flat_within}

-- a front goes on, with what may stand in the place of the rest
follows_some : (front bytes tail more : List ℕ) → bytes ≡ front ++ tail → 0 < length front → Follows (front ++ more) bytes
follows_some front bytes tail more e some = subst (λ (xs : List ℕ). Follows (front ++ more) xs) (sym e) (inr (alike_front front more tail some))

follows_front : (front bytes tail more : List ℕ) → bytes ≡ front ++ tail → is_behind_word more ≡ true → Follows (front ++ more) bytes
follows_front [] bytes tail more e ends = inl ends
follows_front (c ∷ cs) bytes tail more e ends = follows_some (c ∷ cs) bytes tail more e (omega arith)

-- pairs without lists, a gap and the brackets that close all lists finish the document
flat_finish : (old : Partial) (rest bytes gap : List ℕ) (pairs : Document) → depth pairs ≡ 0 → IsPartial old → is_gap false gap ≡ true → Follows bytes rest → PairsStand pairs bytes (gap ++ brackets (frames_of old)) → CanFinish old rest bytes
flat_finish old rest bytes gap pairs flat within is follows s = (
  follows,
  plug (frames_of old) (append (pairs_of old) pairs),
  completes_closed (frames_of old) (pairs_of old) pairs bytes gap is s,
  flat_within (frames_of old) (pairs_of old) pairs flat within,
)

gap_finish : (old : Partial) (bytes gap tail : List ℕ) → bytes ≡ gap ++ tail → is_gap false gap ≡ true → IsPartial old → CanFinish old bytes (gap ++ brackets (frames_of old))
gap_finish old bytes gap tail e is within =
    flat_finish old bytes (gap ++ brackets (frames_of old)) gap empty refl within is (follows_front gap bytes tail (brackets (frames_of old)) e (brackets_behind (frames_of old))) refl

pair_finish : (old : Partial) (bytes front tail more : List ℕ) → bytes ≡ front ++ tail → 0 < length front → IsPartial old → WholePair (front ++ more) → CanFinish old bytes (front ++ (more ++ brackets (frames_of old)))
pair_finish old bytes front tail more e some within w =
    let p = flat_pair (front ++ more) (brackets (frames_of old)) w (brackets_behind (frames_of old)) in
    flat_finish old bytes (front ++ (more ++ brackets (frames_of old))) [] p.pair p.flat within refl
    (follows_some front bytes tail (more ++ brackets (frames_of old)) e some)
    (subst (λ (xs : List ℕ). PairsStand p.pair xs (brackets (frames_of old))) (append_assoc front more (brackets (frames_of old))) p.stands)

-- a front of an item goes on to a document
record FrontFinishes (old : Partial) (bytes front : List ℕ) : Type 0 where
  pub more : List ℕ
  pub whole : CanFinish old bytes (front ++ more)

front_finishes : (old : Partial) (bytes front tail more : List ℕ) → bytes ≡ front ++ tail → IsPartial old → WholePair (front ++ more) → FrontFinishes old bytes front
front_finishes old bytes [] tail more e within w = record { more = brackets (frames_of old); whole = gap_finish old bytes [] tail e refl within }
front_finishes old bytes (c ∷ cs) tail more e within w =
    record { more = more ++ brackets (frames_of old); whole = pair_finish old bytes (c ∷ cs) tail more e (omega arith) within w }

-- no item
pub refused_stuck : (old : Partial) (bytes : List ℕ) (left : ℕ) → PairBreaks bytes left → IsPartial old → IsRefused old bytes left
refused_stuck old bytes left b within =
    let goes_on = front_finishes old bytes b.front b.tail b.more b.split within b.whole in
    record {
      front = b.front;
      tail = b.tail;
      split = b.split;
      count = b.count;
      more = goes_on.more;
      whole = goes_on.whole;
      breaks = λ c r others e d f deep. stuck_completes (frames_of old) (pairs_of old) (b.front ++ (c ∷ others)) (b.breaks c r others e) d f;
      none = λ d f deep. stuck_completes (frames_of old) (pairs_of old) bytes b.none d f;
    }

-- a list that would be nested too deep
too_deep : (old : Partial) (bytes value behind key : List ℕ) → KeyStands key bytes value → OpenStands value behind → 32 ≤ length (frames_of old) → NeverFinishes old bytes
too_deep old bytes value behind key k o deep d c within =
    let same = same_open (frames_of old) (pairs_of old) bytes value behind key k o in
    omega (arith, completes_depth (record { before = pairs_of old; key = key } ∷ frames_of old) empty behind d (same.forth d c), deep, within)

gap_behind : (gap rest more : List ℕ) → is_behind_word (gap ++ rest) ≡ true → is_behind_word more ≡ true → is_behind_word (gap ++ more) ≡ true
gap_behind [] rest more h k = k
gap_behind (c ∷ cs) rest more h k = h

refused_open : (old : Partial) (bytes value behind key : List ℕ) → KeyStands key bytes value → OpenStands value behind → 32 ≤ length (frames_of old) → IsPartial old → IsRefused old bytes (length behind + 1)
refused_open old bytes value behind key k o deep within =
    record {
      front = (k.stands.gap ++ key) ++ o.gap;
      tail = 91 ∷ behind;
      split = split;
      count = omega arith;
      more = (34 ∷ 34 ∷ []) ++ brackets (frames_of old);
      whole = pair_finish old bytes ((k.stands.gap ++ key) ++ o.gap) (91 ∷ behind) (34 ∷ 34 ∷ []) split (key_some key bytes value k o.gap) within quotes;
      breaks = λ b r others e. subst (λ (x : ℕ). NeverFinishes old (((k.stands.gap ++ key) ++ o.gap) ++ (x ∷ others))) (first b r e) (never others);
      none = too_deep old bytes value behind key k o deep;
    }
  where
    split : bytes ≡ ((k.stands.gap ++ key) ++ o.gap) ++ (91 ∷ behind)
    split = key_split key bytes value k o.gap (91 ∷ behind) o.whole

    ends : (more : List ℕ) → is_behind_word more ≡ true → is_behind_word (o.gap ++ more) ≡ true
    ends more h = gap_behind o.gap (91 ∷ behind) more (sym (ap is_behind_word o.whole) ∙ k.ends) h

    quotes : WholePair (((k.stands.gap ++ key) ++ o.gap) ++ (34 ∷ 34 ∷ []))
    quotes =
        record {
          key = key;
          value = o.gap ++ (34 ∷ 34 ∷ []);
          stands = key_before key bytes value k o.gap (34 ∷ 34 ∷ []) (ends (34 ∷ 34 ∷ []) refl);
          whole = record { text = []; stands = inr (record { stands = record { gap = o.gap; whole = refl; is_gap = o.is_gap }; no_quote = refl }) };
        }

    first : (b : ℕ) (r : List ℕ) → 91 ∷ behind ≡ b ∷ r → 91 ≡ b
    first b r e = cc

    never : (others : List ℕ) → NeverFinishes old (((k.stands.gap ++ key) ++ o.gap) ++ (91 ∷ others))
    never others =
        too_deep old (((k.stands.gap ++ key) ++ o.gap) ++ (91 ∷ others)) (o.gap ++ (91 ∷ others)) others key
        (key_before key bytes value k o.gap (91 ∷ others) (ends (91 ∷ others) refl))
        (record { gap = o.gap; whole = refl; is_gap = o.is_gap })
        deep

pub refused_pair : (key : Bor (List ℕ)) (found : Found) (behind : Bor (List ℕ)) (old : Partial) (bytes : List ℕ) → ItemStands (Pair key found behind) bytes → IsTooDeep found old → IsPartial old → IsRefused old bytes (length behind.now + 1)
refused_pair key (Number text) behind old bytes s deep within = absurd deep
refused_pair key (Text text) behind old bytes s deep within = absurd deep
refused_pair key Open behind old bytes s deep within = refused_open old bytes s.0 behind.now key.now s.1 s.2 deep within

-- a closing bracket where no list is open
never_closes : (old : Partial) (bytes behind : List ℕ) → CloseStands bytes behind → frames_of old ≡ [] → NeverFinishes old bytes
never_closes old bytes behind s e d c within = close_none (pairs_of old) bytes behind d s (subst (λ (fs : List Frame). Completes fs (pairs_of old) bytes d) e c)

pub refused_close : (old : Partial) (bytes behind : List ℕ) → CloseStands bytes behind → frames_of old ≡ [] → IsPartial old → IsRefused old bytes (length behind + 1)
refused_close old bytes behind s e within =
    record {
      front = s.gap;
      tail = 93 ∷ behind;
      split = s.whole;
      count = omega arith;
      more = brackets (frames_of old);
      whole = gap_finish old bytes s.gap (93 ∷ behind) s.whole s.is_gap within;
      breaks = λ b r others f.
          subst (λ (x : ℕ). NeverFinishes old (s.gap ++ (x ∷ others))) (first b r f)
          (never_closes old (s.gap ++ (93 ∷ others)) others (record { gap = s.gap; whole = refl; is_gap = s.is_gap }) e);
      none = never_closes old bytes behind s e;
    }
  where
    first : (b : ℕ) (r : List ℕ) → 93 ∷ behind ≡ b ∷ r → 93 ≡ b
    first b r f = cc

-- the end, with lists open
open_at_end : (frames : List Frame) (pairs : Document) (bytes : List ℕ) (d : Document) → 0 < length frames → is_gap true bytes ≡ true → Completes frames pairs bytes d → ⊥
open_at_end [] pairs bytes d some last c = omega arith
open_at_end (frame ∷ frames) pairs bytes d some last c = over_open frames frame pairs bytes d last c

pub refused_end : (old : Partial) (bytes : List ℕ) → 0 < length (frames_of old) → is_gap true bytes ≡ true → IsPartial old → IsRefused old bytes 0
refused_end old bytes some last within =
    record {
      front = bytes;
      tail = [];
      split = sym (append-nil bytes);
      count = refl;
      more = 10 ∷ brackets (frames_of old);
      whole =
          flat_finish old bytes (bytes ++ (10 ∷ brackets (frames_of old))) (bytes ++ (10 ∷ [])) empty refl within (gap_line bytes last)
          (follows_front bytes bytes [] (10 ∷ brackets (frames_of old)) (sym (append-nil bytes)) refl)
          (sym (append_assoc bytes (10 ∷ []) (brackets (frames_of old))));
      breaks = λ b r others e. absurd (nil_cons b r e);
      none = λ d c deep. open_at_end (frames_of old) (pairs_of old) bytes d some last c;
    }
  where
    nil_cons : (b : ℕ) (r : List ℕ) → [] ≡ b ∷ r → ⊥
    nil_cons b r e = cc
