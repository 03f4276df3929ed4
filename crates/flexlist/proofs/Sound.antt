-- Every version of a history is sound. Assumes nothing.
use Rattle.std.proofs.Common.{◌≡◌, ℕ, zero, suc, eqb, List, [], ◌∷◌, ◌++◌, length, take, drop, unwrap_or, sym, refl, ap, ◌∙◌, subst, inl, inr, add-one, arith, length-append, take-append-drop, drop-drop, eq-eqb, ne_eqb}
use Rattle.std.specs.List.{slice_get, AllByRecursion}
use Rattle.std.proofs.lemmas.List.{map-append}
use Rattle.std.proofs.ByRecursion.{All-weaker, All-append, All-push, All-take, All-drop}
use Rattle.std.proofs.lemmas.Bool.{cond-true, cond-false}
use Rattle.flexlist.specs.Nodes.{Distinct, Among}
use Rattle.flexlist.proofs.Lists.{distinct_left, distinct_right, distinct_append, apart}
use Rattle.flexlist.specs.Edits.{Item, Edit, insert, change, removal, base_of, brought, first_changed, done, lists, list_of, identities_of, Known, Sound, HistoriesSound}

distinct_between : (n : ℕ) (as' bs : List ℕ) → Distinct (as' ++ bs) → (Among n as' → ⊥) → (Among n bs → ⊥) → Distinct (as' ++ (n ∷ bs))
distinct_between n as' bs d f g =
    distinct_append as' (n ∷ bs) (distinct_left as' bs d) (g, distinct_right as' bs d) (λ x a. elim [ inl e ↦ f (subst (λ y. Among y as') e a) | inr b ↦ apart x as' bs d a b ])

distinct_without : (n : ℕ) (as' bs : List ℕ) → Distinct (as' ++ (n ∷ bs)) → Distinct (as' ++ bs)
distinct_without n as' bs d =
    distinct_append as' bs (distinct_left as' (n ∷ bs) d) (distinct_right as' (n ∷ bs) d).1 (λ x a b. apart x as' (n ∷ bs) d a (inr b))

module _ {R : Type 0} where
  -- what was known stays known
  pub known_later : (e : Edit R) (es : List (Edit R)) (x : Item R) → Known es x → Known (e ∷ es) x
  known_later e es x k =
      let g = k.given in
      let other : (x.identity ≡ suc (length es)) → ⊥ = λ h. omega arith in
      record { some = k.some; given = omega arith; holds = cond-false (eqb x.identity (suc (length es))) _ _ (ne_eqb _ _ other) ∙ k.holds }

  -- the block that an edit makes is known
  known_new : (e : Edit R) (es : List (Edit R)) (k : ℕ) → Known (e ∷ es) (record { identity = suc (length es); level = k; content = brought e })
  known_new e es k = record { some = omega arith; given = omega arith; holds = cond-true (eqb (suc (length es)) (suc (length es))) _ _ (eq-eqb _ _ refl) }

  -- a new identity is none of those given before
  pub fresh : (es : List (Edit R)) (xs : List (Item R)) → AllByRecursion (Known es) xs → Among (suc (length es)) (identities_of xs) → ⊥
  fresh es [] k h = h
  fresh es (x ∷ xs) k (inl h) = let g = k.0.given in omega arith
  fresh es (x ∷ xs) k (inr h) = fresh es xs k.1 h

  module _ (e : Edit R) (es : List (Edit R)) (as' : List (Item R)) (known_as : AllByRecursion (Known es) as') where
    later : (xs : List (Item R)) → AllByRecursion (Known es) xs → AllByRecursion (Known (e ∷ es)) xs
    later xs k = All-weaker (Known es) (Known (e ∷ es)) (known_later e es) xs k

    -- a block that the edit makes, between two parts
    made_between : (bs : List (Item R)) (k : ℕ) → AllByRecursion (Known es) bs → Distinct (identities_of as' ++ identities_of bs)
        → Sound (e ∷ es) (as' ++ (record { identity = suc (length es); level = k; content = brought e } ∷ bs))
    made_between bs k known_bs d =
        let n = suc (length es) in
        let x : Item R = record { identity = n; level = k; content = brought e } in
        let ids : identities_of (as' ++ (x ∷ bs)) ≡ identities_of as' ++ (n ∷ identities_of bs) = map-append (λ y. y.identity) as' (x ∷ bs) in
        record {
          known = All-append (Known (e ∷ es)) as' (x ∷ bs) (later as' known_as) (known_new e es k, later bs known_bs);
          apart = subst Distinct (sym ids) (distinct_between n (identities_of as') (identities_of bs) d (fresh es as' known_as) (fresh es bs known_bs));
        }

    kept : (bs : List (Item R)) → AllByRecursion (Known es) bs → Distinct (identities_of as' ++ identities_of bs) → Sound (e ∷ es) (as' ++ bs)
    kept bs known_bs d = record {
      known = All-append (Known (e ∷ es)) as' bs (later as' known_as) (later bs known_bs);
      apart = subst Distinct (sym (map-append (λ y. y.identity) as' bs)) d;
    }

    changed_first : (bs : List (Item R)) → AllByRecursion (Known es) bs → Distinct (identities_of as' ++ identities_of bs) → Sound (e ∷ es) (as' ++ first_changed (suc (length es)) (brought e) bs)
    changed_first [] known_bs d = kept [] known_bs d
    changed_first (x ∷ bs) known_bs d = made_between bs x.level known_bs.1 (distinct_without x.identity (identities_of as') (identities_of bs) d)

    first_gone : (bs : List (Item R)) → AllByRecursion (Known es) bs → Distinct (identities_of as' ++ identities_of bs) → Sound (e ∷ es) (as' ++ drop 1 bs)
    first_gone [] known_bs d = kept [] known_bs d
    first_gone (x ∷ []) known_bs d = kept [] tt (distinct_without x.identity (identities_of as') [] d)
    first_gone (x ∷ y ∷ bs) known_bs d = kept (y ∷ bs) known_bs.1 (distinct_without x.identity (identities_of as') (identities_of (y ∷ bs)) d)

  sound_done : (e : Edit R) (es : List (Edit R)) (xs : List (Item R)) → Sound es xs → Sound (e ∷ es) (done (suc (length es)) e xs)
  sound_done e es xs s = sound_at e
    where
      parts : (p : ℕ) → Distinct (identities_of (take p xs) ++ identities_of (drop p xs))
      parts p = subst Distinct (ap identities_of (sym (take-append-drop p xs)) ∙ map-append (λ y. y.identity) (take p xs) (drop p xs)) s.apart

      front : (p : ℕ) → AllByRecursion (Known es) (take p xs)
      front p = All-take (Known es) p xs s.known

      back : (p : ℕ) → AllByRecursion (Known es) (drop p xs)
      back p = All-drop (Known es) p xs s.known

      sound_at : (f : Edit R) → Sound (f ∷ es) (done (suc (length es)) f xs)
      sound_at (insert base p k c) = made_between (insert base p k c) es (take p xs) (front p) (drop p xs) k (back p) (parts p)
      sound_at (change base p c) = changed_first (change base p c) es (take p xs) (front p) (drop p xs) (back p) (parts p)
      sound_at (removal base p) = subst (λ l. Sound (removal base p ∷ es) (take p xs ++ l)) (drop-drop 1 p xs ∙ ap (λ n. drop n xs) (add-one p)) (first_gone (removal base p) es (take p xs) (front p) (drop p xs) (back p) (parts p))

  sound_none : (es : List (Edit R)) → Sound es []
  sound_none es = record { known = tt; apart = tt }

  sound_later : (e : Edit R) (es : List (Edit R)) (xs : List (Item R)) → Sound es xs → Sound (e ∷ es) xs
  sound_later e es xs s = record { known = All-weaker (Known es) (Known (e ∷ es)) (known_later e es) xs s.known; apart = s.apart }

  -- any version of sound ones is sound
  sound_at : (es : List (Edit R)) (ls : List (List (Item R))) (v : ℕ) → AllByRecursion (Sound es) ls → Sound es (unwrap_or (slice_get ls v) [])
  sound_at es [] v h = sound_none es
  sound_at es (l ∷ ls) zero h = h.0
  sound_at es (l ∷ ls) (suc v) h = sound_at es ls v h.1

  pub histories_sound : HistoriesSound R
  unfolding lists
  histories_sound [] = (refl, (sound_none [], tt))
  histories_sound (e ∷ es) =
      let ih = histories_sound es in
      let new = done (suc (length es)) e (list_of es (base_of e)) in (
        length-append (lists es) (new ∷ []) ∙ add-one (length (lists es)) ∙ ap suc ih.0,
        All-push (Sound (e ∷ es)) (lists es) new (All-weaker (Sound es) (Sound (e ∷ es)) (sound_later e es) (lists es) ih.1) (sound_done e es (list_of es (base_of e)) (sound_at es (lists es) (base_of e) ih.1)),
      )

  -- the list of one version is sound
  pub version_sound : (es : List (Edit R)) (v : ℕ) → Sound es (list_of es v)
  version_sound es v = sound_at es (lists es) v (histories_sound es).1
