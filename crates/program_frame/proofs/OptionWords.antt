-- Options and their words.
use Rattle.std.proofs.Common.{◌≡◌, ◌⊎◌, ℕ, ◌<◌, List, [], ◌∷◌, length, map, true, false, Option, Some, None, inl, inr, refl, sym, ap, subst, ◌∙◌, arith}
use Rattle.std.specs.Prelude.{codes}
use Rattle.asn1_types.specs.declared.generalized_time.GeneralizedTime.{GeneralizedTime}
use Rattle.program_frame.specs.DateWord.{IsDateWord}
use Rattle.program_frame.specs.Options as option
use Rattle.program_frame.specs.ListOption.{AskedList}
use Rattle.program_frame.specs.Options.{AreOptions, AreWordsOf, BeginsWithOption, CheckOption, CheckOptions}
use Rattle.program_frame.specs.Options.{IsAbsent, AreOnce, no_options, with_options, with_option}

-- ---- the first option, and the later ones

no_words : (o : CheckOption) (rest : List (List ℕ)) → BeginsWithOption o [] rest → ⊥
no_words (option.Until date) rest begins = let are = begins.1 in absurd cc
no_words option.NoBefore rest begins = absurd cc
no_words option.NoAfter rest begins = absurd cc
no_words option.NoChain rest begins = absurd cc
no_words (option.TrustList list) rest begins = let are = begins.1 in absurd cc

-- after `--until` are a date and the rest
pub record IsUntil (o : CheckOption) (words rest : List (List ℕ)) : Type 0 where
  pub date : GeneralizedTime
  pub word : List ℕ
  pub is : o ≡ option.Until date
  pub are_words : words ≡ word ∷ rest
  pub is_date : IsDateWord word date

same_behind : (x : List ℕ) (xs ys : List (List ℕ)) → x ∷ xs ≡ x ∷ ys → xs ≡ ys
same_behind x xs ys are = cc

same_first : (x y : List ℕ) (xs ys : List (List ℕ)) → x ∷ xs ≡ y ∷ ys → x ≡ y
same_first x y xs ys are = cc

-- the first of the words is that date
pub until_first : (word : List ℕ) (words behind rest : List (List ℕ)) (o : CheckOption) → words ≡ word ∷ behind → (h : IsUntil o words rest)
    → IsDateWord word h.date
until_first word words behind rest o are h = let same : h.word ≡ word = same_first h.word word rest behind (sym h.are_words ∙ are) in
    subst (λ (w : List ℕ). IsDateWord w h.date) same h.is_date

pub until_is : (o : CheckOption) (words rest : List (List ℕ)) → BeginsWithOption o (codes "--until" ∷ words) rest → IsUntil o words rest
until_is (option.Until date) words rest begins = record {
  date = date;
  word = begins.0;
  is = refl;
  are_words = same_behind (codes "--until") words (begins.0 ∷ rest) begins.1;
  is_date = begins.2;
}
until_is option.NoBefore words rest begins = absurd cc
until_is option.NoAfter words rest begins = absurd cc
until_is option.NoChain words rest begins = absurd cc
until_is (option.TrustList list) words rest begins = let are = begins.1 in absurd cc

pub none_are : AreOptions [] no_options
none_are = record { options = []; are_words = refl; once = tt; is = refl }

of_none : (options : List CheckOption) → AreWordsOf options [] → with_options options ≡ no_options
of_none [] are = refl
of_none (o ∷ others) are = absurd (no_words o are.0 are.1)

-- no words are no options
pub only_none : (o : CheckOptions) → AreOptions [] o → o ≡ no_options
only_none o h = h.is ∙ of_none h.options h.are_words

-- The words begin with an option, and these follow it.
pub record AreSplit (words : List (List ℕ)) (o : CheckOptions) : Type 0 where
  pub first : CheckOption
  pub rest : List (List ℕ)
  pub others : CheckOptions
  pub begins : BeginsWithOption first words rest
  pub are_others : AreOptions rest others
  pub absent : IsAbsent first others
  pub is : o ≡ with_option first others

split_options : (word : List ℕ) (words : List (List ℕ)) (o : CheckOptions) (options : List CheckOption) → AreWordsOf options (word ∷ words) → AreOnce options
    → o ≡ with_options options → AreSplit (word ∷ words) o
split_options word words o [] are once is = absurd cc
split_options word words o (first ∷ others) are once is = record {
  first = first;
  rest = are.0;
  others = with_options others;
  begins = are.1;
  are_others = record { options = others; are_words = are.2; once = once.1; is = refl };
  absent = once.0;
  is = is;
}

pub split : (word : List ℕ) (words : List (List ℕ)) (o : CheckOptions) → AreOptions (word ∷ words) o → AreSplit (word ∷ words) o
split word words o h = split_options word words o h.options h.are_words h.once h.is

pub joined : (words rest : List (List ℕ)) (first : CheckOption) (others o : CheckOptions) → BeginsWithOption first words rest → AreOptions rest others
    → IsAbsent first others
    → o ≡ with_option first others → AreOptions words o
joined words rest first others o begins h absent is = record {
  options = first ∷ h.options;
  are_words = (rest, begins, h.are_words);
  once = (subst (IsAbsent first) h.is absent, h.once);
  is = is ∙ ap (with_option first) h.is;
}

-- ---- options that were read, and the rest

-- one of two is none, and the third is the other one
abbrev Joins : {A : Type 0} → (none a b c : A) → Type 0
Joins none a b c = ((a ≡ none) × (c ≡ b)) ⊎ ((b ≡ none) × (c ≡ a))

-- No option is in both, and the third has those of both.
pub record AreTogether (a b c : CheckOptions) : Type 0 where
  pub until : Joins {A = Option GeneralizedTime} None a.until b.until c.until
  pub no_before : Joins false a.no_before b.no_before c.no_before
  pub no_after : Joins false a.no_after b.no_after c.no_after
  pub no_chain : Joins false a.no_chain b.no_chain c.no_chain
  pub list : Joins {A = Option AskedList} None a.list b.list c.list

pub nothing_ahead : (o : CheckOptions) → AreTogether no_options o o
nothing_ahead o = record {
  until = inl (refl, refl);
  no_before = inl (refl, refl);
  no_after = inl (refl, refl);
  no_chain = inl (refl, refl);
  list = inl (refl, refl);
}

pub nothing_behind : (o : CheckOptions) → AreTogether o no_options o
nothing_behind o = record {
  until = inr (refl, refl);
  no_before = inr (refl, refl);
  no_after = inr (refl, refl);
  no_chain = inr (refl, refl);
  list = inr (refl, refl);
}

joined_ahead : {A : Type 0} (none b c : A) → Joins none none b c → c ≡ b
joined_ahead none b c (inl h) = h.1
joined_ahead none b c (inr h) = h.1 ∙ sym h.0

joined_behind : {A : Type 0} (none a c : A) → Joins none a none c → c ≡ a
joined_behind none a c (inl h) = h.1 ∙ sym h.0
joined_behind none a c (inr h) = h.1

same_options : (a b : CheckOptions) → a.until ≡ b.until → a.no_before ≡ b.no_before → a.no_after ≡ b.no_after → a.no_chain ≡ b.no_chain
    → a.list ≡ b.list → a ≡ b
same_options a b until before after chain list = λ i. record { until = until i; no_before = before i; no_after = after i; no_chain = chain i; list = list i }

pub all_behind : (b c : CheckOptions) → AreTogether no_options b c → c ≡ b
all_behind b c h = same_options c b
    (joined_ahead None b.until c.until h.until) (joined_ahead false b.no_before c.no_before h.no_before)
    (joined_ahead false b.no_after c.no_after h.no_after) (joined_ahead false b.no_chain c.no_chain h.no_chain) (joined_ahead None b.list c.list h.list)

pub all_ahead : (a c : CheckOptions) → AreTogether a no_options c → c ≡ a
all_ahead a c h = same_options c a
    (joined_behind None a.until c.until h.until) (joined_behind false a.no_before c.no_before h.no_before)
    (joined_behind false a.no_after c.no_after h.no_after) (joined_behind false a.no_chain c.no_chain h.no_chain) (joined_behind None a.list c.list h.list)

some_is_not_none : (date : GeneralizedTime) → Some date ≡ None → ⊥
some_is_not_none date is = absurd cc

some_list_is_not_none : (list : AskedList) → Some list ≡ None → ⊥
some_list_is_not_none list is = absurd cc

true_is_not_false : true ≡ false → ⊥
true_is_not_false is = absurd cc

-- the first of the rest is read
moves : {A : Type 0} (none x a b c : A) → (x ≡ none → ⊥) → b ≡ none → Joins none a x c → (a ≡ none) × Joins none x b c
moves none x a b c some left (inl h) = (h.0, inr (left, h.1))
moves none x a b c some left (inr h) = absurd (some h.0)

moves_back : {A : Type 0} (none x a b c : A) → (x ≡ none → ⊥) → a ≡ none → Joins none x b c → (b ≡ none) × Joins none a x c
moves_back none x a b c some read (inl h) = absurd (some h.0)
moves_back none x a b c some read (inr h) = (h.0, inl (read, h.1))

pub read_one : (first : CheckOption) (a b c : CheckOptions) → IsAbsent first b → AreTogether a (with_option first b) c
    → IsAbsent first a × AreTogether (with_option first a) b c
read_one (option.Until date) a b c absent h =
    let m = moves None (Some date) a.until b.until c.until (some_is_not_none date) absent h.until in
    (m.0, record { until = m.1; no_before = h.no_before; no_after = h.no_after; no_chain = h.no_chain; list = h.list })
read_one option.NoBefore a b c absent h =
    let m = moves false true a.no_before b.no_before c.no_before true_is_not_false absent h.no_before in
    (m.0, record { until = h.until; no_before = m.1; no_after = h.no_after; no_chain = h.no_chain; list = h.list })
read_one option.NoAfter a b c absent h =
    let m = moves false true a.no_after b.no_after c.no_after true_is_not_false absent h.no_after in
    (m.0, record { until = h.until; no_before = h.no_before; no_after = m.1; no_chain = h.no_chain; list = h.list })
read_one option.NoChain a b c absent h =
    let m = moves false true a.no_chain b.no_chain c.no_chain true_is_not_false absent h.no_chain in
    (m.0, record { until = h.until; no_before = h.no_before; no_after = h.no_after; no_chain = m.1; list = h.list })
read_one (option.TrustList list) a b c absent h =
    let m = moves None (Some list) a.list b.list c.list (some_list_is_not_none list) absent h.list in
    (m.0, record { until = h.until; no_before = h.no_before; no_after = h.no_after; no_chain = h.no_chain; list = m.1 })

pub unread_one : (first : CheckOption) (a b c : CheckOptions) → IsAbsent first a → AreTogether (with_option first a) b c
    → IsAbsent first b × AreTogether a (with_option first b) c
unread_one (option.Until date) a b c absent h =
    let m = moves_back None (Some date) a.until b.until c.until (some_is_not_none date) absent h.until in
    (m.0, record { until = m.1; no_before = h.no_before; no_after = h.no_after; no_chain = h.no_chain; list = h.list })
unread_one option.NoBefore a b c absent h =
    let m = moves_back false true a.no_before b.no_before c.no_before true_is_not_false absent h.no_before in
    (m.0, record { until = h.until; no_before = m.1; no_after = h.no_after; no_chain = h.no_chain; list = h.list })
unread_one option.NoAfter a b c absent h =
    let m = moves_back false true a.no_after b.no_after c.no_after true_is_not_false absent h.no_after in
    (m.0, record { until = h.until; no_before = h.no_before; no_after = m.1; no_chain = h.no_chain; list = h.list })
unread_one option.NoChain a b c absent h =
    let m = moves_back false true a.no_chain b.no_chain c.no_chain true_is_not_false absent h.no_chain in
    (m.0, record { until = h.until; no_before = h.no_before; no_after = h.no_after; no_chain = m.1; list = h.list })
unread_one (option.TrustList list) a b c absent h =
    let m = moves_back None (Some list) a.list b.list c.list (some_list_is_not_none list) absent h.list in
    (m.0, record { until = h.until; no_before = h.no_before; no_after = h.no_after; no_chain = h.no_chain; list = m.1 })

-- there are no words if there isn't a first one
pub nothing_left : {W : Type 0} (text : W → List ℕ) (words : List W) → length words < 1 → map text words ≡ []
nothing_left text [] short = refl
nothing_left text (word ∷ words) short = absurd (omega arith)

-- Some options of the words were read, and the others are those of the rest.
pub record AreRead (words rest : List (List ℕ)) (read : CheckOptions) : Type 0 where
  pub left : (all : CheckOptions) → AreOptions words all → (others : CheckOptions) × AreOptions rest others × AreTogether read others all
  pub sound : (others all : CheckOptions) → AreOptions rest others → AreTogether read others all → AreOptions words all

-- if none was read
pub none_read : (words : List (List ℕ)) → AreRead words words no_options
none_read words = record {
  left = λ all h. (all, h, nothing_ahead all);
  sound = λ others all h together. subst (AreOptions words) (sym (all_behind others all together)) h;
}

module _ (words rest : List (List ℕ)) (read : CheckOptions) (h : AreRead words rest read) where
  -- if nothing is left
  pub all_read : rest ≡ [] → AreOptions words read
  all_read none = h.sound no_options read (subst (λ (r : List (List ℕ)). AreOptions r no_options) (sym none) none_are) (nothing_behind read)

  pub only_read : rest ≡ [] → (all : CheckOptions) → AreOptions words all → all ≡ read
  only_read none all is =
      let l = h.left all is in
      let nothing = only_none l.0 (subst (λ (r : List (List ℕ)). AreOptions r l.0) none l.1) in
      all_ahead read all (subst (λ (o : CheckOptions). AreTogether read o all) nothing l.2)

  module _ (word : List ℕ) (behind : List (List ℕ)) (are : rest ≡ word ∷ behind) where
    next : (all : CheckOptions) (is : AreOptions words all) → AreSplit (word ∷ behind) (h.left all is).0
    next all is = let l = h.left all is in split word behind l.0 (subst (λ (r : List (List ℕ)). AreOptions r l.0) are l.1)

    together : (all : CheckOptions) (is : AreOptions words all) → AreTogether read (with_option (next all is).first (next all is).others) all
    together all is = subst (λ (o : CheckOptions). AreTogether read o all) (next all is).is (h.left all is).2

    -- if the rest begins with no option
    pub none_next : ((first : CheckOption) (others : List (List ℕ)) → BeginsWithOption first (word ∷ behind) others → ⊥) → (all : CheckOptions)
        → AreOptions words all → ⊥
    none_next none all is = let n = next all is in none n.first n.rest n.begins

    module _ (first : CheckOption) (others : List (List ℕ))
        (one : (o : CheckOption) (r : List (List ℕ)) → BeginsWithOption o (word ∷ behind) r → (first ≡ o) × (others ≡ r)) where
      read_next : (all : CheckOptions) → AreOptions words all
          → IsAbsent first read × ((left : CheckOptions) × AreOptions others left × AreTogether (with_option first read) left all)
      read_next all is =
          let n = next all is in
          let same = one n.first n.rest n.begins in
          let r = read_one first read n.others all (subst (λ (o : CheckOption). IsAbsent o n.others) (sym same.0) n.absent)
          (subst (λ (o : CheckOption). AreTogether read (with_option o n.others) all) (sym same.0) (together all is)) in
          (r.0, (n.others, subst (λ (w : List (List ℕ)). AreOptions w n.others) (sym same.1) n.are_others, r.1))

      -- if it begins with one that was read
      pub not_again : (IsAbsent first read → ⊥) → (all : CheckOptions) → AreOptions words all → ⊥
      not_again there all is = there (read_next all is).0

      -- if it begins with one that wasn't
      pub one_more : IsAbsent first read → BeginsWithOption first (word ∷ behind) others → AreRead words others (with_option first read)
      one_more absent begins = record {
        left = λ all is. (read_next all is).1;
        sound = λ left all is now.
            let u = unread_one first read left all absent now in
            h.sound (with_option first left) all
            (subst (λ (r : List (List ℕ)). AreOptions r (with_option first left)) (sym are)
            (joined (word ∷ behind) others first left (with_option first left) begins is u.0 refl)) u.1;
      }
