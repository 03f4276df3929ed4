-- A list of calls carried out, with one call more at its end. Assumes nothing.
use Rattle.store.specs.Keeping.{Keeping}
use Rattle.std.proofs.Common.{◌≡◌, ℕ, ◌+◌, ◌<◌, ◌≤◌, List, [], ◌∷◌, ◌++◌, map, length, get_or, take, set, sym, refl, ap, ◌∙◌, subst, arith}
use Rattle.std.proofs.lemmas.List.{take_more, take_more_set, map-append, take-append-le}
use Rattle.summary.specs.Summing.{Summing}
use Rattle.archive.specs.Calling.{Archive}
use Rattle.runs.specs.declared.call.Call.{Call}
use Rattle.runs.specs.declared.reply.Reply.{Reply}
use Rattle.runs.specs.Calls.{Request, Outcome, Contract, Chain}
use Rattle.runs.specs.Lists.{request, requests, reply, output_after, last_output, CarriedOne, CarriedOn}
use Rattle.runs.proofs.Lawful.{runs_lawful}

module _ {R Q S : Type 0} (means : Summing R Q) (keeps : Keeping S R) where
  -- a chain, with one call more
  chain_more : (s t u : Archive Q S) (ws : List (Request R)) (os : List (Outcome R Q)) (w : Request R) (o : Outcome R Q) → Chain means keeps s ws os t → Contract means keeps t w o u
      → Chain means keeps s (ws ++ (w ∷ [])) (os ++ (o ∷ [])) u
  chain_more s t u [] [] w o chain c = (u, subst (λ x. Contract means keeps x w o u) chain c, refl)
  chain_more s t u (v ∷ ws) (p ∷ os) w o chain c = (chain.0, chain.1, chain_more chain.0 t u ws os w o chain.2 c)
  chain_more s t u ws os w o chain c = absurd chain

  module _ (readings : List R) where
    -- what the calls of a list ask, where they are a chain, with one more
    requests_more : (calls : List Call) (os : List (Outcome R Q)) (s t : Archive Q S) (out : List R) (c : Call) (o : Outcome R Q) → Chain means keeps s (requests readings calls os out) os t
        → requests readings (calls ++ (c ∷ [])) (os ++ (o ∷ [])) out ≡ requests readings calls os out ++ (request readings c (last_output calls os out) ∷ [])
    requests_more [] [] s t out c o chain = refl
    requests_more [] (p ∷ os) s t out c o chain = absurd chain
    requests_more (b ∷ calls) [] s t out c o chain = absurd chain
    requests_more (b ∷ calls) (p ∷ os) s t out c o chain = ap (λ ws. request readings b out ∷ ws) (requests_more calls os chain.0 t (output_after p b out) c o chain.2)

    output_more : (calls : List Call) (os : List (Outcome R Q)) (s t : Archive Q S) (out : List R) (c : Call) (o : Outcome R Q) → Chain means keeps s (requests readings calls os out) os t
        → last_output (calls ++ (c ∷ [])) (os ++ (o ∷ [])) out ≡ output_after o c (last_output calls os out)
    output_more [] [] s t out c o chain = refl
    output_more [] (p ∷ os) s t out c o chain = absurd chain
    output_more (b ∷ calls) [] s t out c o chain = absurd chain
    output_more (b ∷ calls) (p ∷ os) s t out c o chain = output_more calls os chain.0 t (output_after p b out) c o chain.2

    -- no call
    pub none_carried : (s : Archive Q S) (out : List R) → CarriedOn means keeps readings [] [] s out s out
    none_carried s out = record { outcomes = []; replied = refl; chain = refl; law = λ h st. (st, refl); output = refl }

    -- one call more
    one_more : (calls : List Call) (replies : List (Reply R Q)) (s t u : Archive Q S) (out mid last : List R) (c : Call) (r : Reply R Q)
        → CarriedOn means keeps readings calls replies s out t mid → CarriedOne means keeps readings c r t mid u last
        → CarriedOn means keeps readings (calls ++ (c ∷ [])) (replies ++ (r ∷ [])) s out u last
    one_more calls replies s t u out mid last c r on one =
        let asks = requests_more calls on.outcomes s t out c one.outcome on.chain in
        let found : Contract means keeps t (request readings c (last_output calls on.outcomes out)) one.outcome u =
        subst (λ x. Contract means keeps t (request readings c x) one.outcome u) on.output one.contract in
        let chain : Chain means keeps s (requests readings (calls ++ (c ∷ [])) (on.outcomes ++ (one.outcome ∷ [])) out) (on.outcomes ++ (one.outcome ∷ [])) u =
        rw asks (chain_more s t u _ on.outcomes _ one.outcome on.chain found) in
        record {
          outcomes = on.outcomes ++ (one.outcome ∷ []);
          replied = ap (λ rs. rs ++ (r ∷ [])) on.replied ∙ (ap (λ x. map reply on.outcomes ++ (x ∷ [])) one.replied ∙ sym (map-append reply on.outcomes (one.outcome ∷ [])));
          chain = chain;
          law = λ h st. runs_lawful means keeps h s u _ _ st chain;
          output = one.output ∙ (ap (output_after one.outcome c) on.output ∙ sym (output_more calls on.outcomes s t out c one.outcome on.chain));
        }

    -- of calls and places for replies, one of each more
    pub next_carried : (calls : List Call) (replies : List (Reply R Q)) (s t u : Archive Q S) (out mid last : List R) (i : ℕ) (d : Call) (r : Reply R Q)
        → CarriedOn means keeps readings (take i calls) (take i replies) s out t mid → CarriedOne means keeps readings (get_or calls i d) r t mid u last → i < length calls → i < length replies
        → CarriedOn means keeps readings (take (i + 1) calls) (take (i + 1) (set replies i r)) s out u last
    next_carried calls replies s t u out mid last i d r on one there place =
        rw (take_more calls i d there, take_more_set replies i r place) (one_more (take i calls) (take i replies) s t u out mid last (get_or calls i d) r on one)

    -- all of them, with what stands past the replies
    pub all_carried : (calls : List Call) (replies rest : List (Reply R Q)) (s t : Archive Q S) (out last : List R) (i n : ℕ)
        → CarriedOn means keeps readings (take i calls) (take i replies) s out t last → i ≡ n → n ≡ length replies
        → CarriedOn means keeps readings (take n calls) (take n (replies ++ rest)) s out t last
    all_carried calls replies rest s t out last i n on end all =
        let within : n ≤ length replies = omega arith in
        rw (take-append-le n replies rest within) (subst (λ k. CarriedOn means keeps readings (take k calls) (take k replies) s out t last) end on)
