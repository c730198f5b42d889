-- A line keeps through a join, a leave and a cut.
use Rattle.std.proofs.Common.{◌≡◌, ◌≢◌, ℕ, ◌<◌, ◌≤◌, Bool, true, false, sym, ap, ◌∙◌, arith, inl, inr, subst}
use Rattle.std.proofs.lemmas.Bool.{cases_eq, cases_lt}
use Rattle.comm_graph.specs.Line.{IsBefore, IsAfter, IsLine}

clash : {X : Type 0} (b : Bool) → b ≡ true → b ≡ false → X
clash b t f = absurd (cc)

-- members, and what they know, are the same
module _ (mem mem' : ℕ → Bool) (bef bef' aft aft' : ℕ → ℕ) (low last : ℕ) where
  pub line-agrees : ((k : ℕ) → mem' k ≡ mem k) → ((k : ℕ) → mem k ≡ true → bef' k ≡ bef k) → ((k : ℕ) → mem k ≡ true → aft' k ≡ aft k) → IsLine mem bef aft low last → IsLine mem' bef' aft' low last
  line-agrees m b a line = record {
    above = λ k h. line.above k (sym (m k) ∙ h);
    back = λ k h.
        let old = line.back k (sym (m k) ∙ h) in
        let e : bef' k ≡ bef k = b k (sym (m k) ∙ h) in
        record {
          below = omega arith;
          there = λ low_v. m (bef' k) ∙ ap mem e ∙ old.there (omega arith);
          none = λ j lo hi. m j ∙ old.none j (omega arith) hi;
        };
    on = λ k h.
        let old = line.on k (sym (m k) ∙ h) in
        let e : aft' k ≡ aft k = a k (sym (m k) ∙ h) in
        record {
          there = λ pos. let t = old.there (omega arith) in (omega arith, m (aft' k) ∙ ap mem e ∙ t.1);
          none = λ j lo hi. m j ∙ old.none j lo (omega arith);
          end = λ z j lo. m j ∙ old.end (omega arith) j lo;
        };
    member = λ h. m last ∙ line.member h;
    end = λ k h. m k ∙ line.end k h;
  }

-- places up to a greater number are dropped
module _ (mem mem' : ℕ → Bool) (bef bef' aft aft' : ℕ → ℕ) (low low' last : ℕ) where
  pub line-cut : low ≤ low' → ((k : ℕ) → low' < k → mem' k ≡ mem k) → ((k : ℕ) → k ≤ low' → mem' k ≡ false) → ((k : ℕ) → low' < k → bef' k ≡ bef k) → ((k : ℕ) → low' < k → aft' k ≡ aft k) → IsLine mem bef aft low last → IsLine mem' bef' aft' low' last
  line-cut le m gone b a line =
      let high : (k : ℕ) → mem' k ≡ true → low' < k = λ k h. elim (cases_lt low' k) [ inl lt ↦ lt | inr ge ↦ clash (mem' k) h (gone k ge) ] in
      let few : (k : ℕ) → mem k ≡ false → mem' k ≡ false = λ k h. elim (cases_lt low' k) [ inl lt ↦ m k lt ∙ h | inr ge ↦ gone k ge ] in
      record {
        above = high;
        back = λ k h.
            let up = high k h in
            let old = line.back k (sym (m k up) ∙ h) in
            let e : bef' k ≡ bef k = b k up in
            record {
              below = let o = old.below in omega arith;
              there = λ low_v. m (bef' k) low_v ∙ ap mem e ∙ old.there (omega arith);
              none = λ j lo hi. few j (old.none j (omega arith) hi);
            };
        on = λ k h.
            let up = high k h in
            let old = line.on k (sym (m k up) ∙ h) in
            let e : aft' k ≡ aft k = a k up in
            record {
              there = λ pos. let t = old.there (omega arith) in let more : k < aft' k = omega (arith, t.0) in (more, m (aft' k) (omega arith) ∙ ap mem e ∙ t.1);
              none = λ j lo hi. few j (old.none j lo (omega arith));
              end = λ z j lo. few j (old.end (omega arith) j lo);
            };
        member = λ h. m last h ∙ line.member (omega arith);
        end = λ k h. few k (line.end k h);
      }

-- a member joins behind all others
module _ (mem mem' : ℕ → Bool) (bef bef' aft aft' : ℕ → ℕ) (low last p : ℕ) where
  pub line-join :
      low < p → ((k : ℕ) → p ≤ k → mem k ≡ false) → mem' p ≡ true → ((k : ℕ) → k ≢ p → mem' k ≡ mem k)
      → bef' p ≡ last → ((k : ℕ) → mem k ≡ true → bef' k ≡ bef k)
      → aft' p ≡ 0 → (low < last → aft' last ≡ p) → ((k : ℕ) → mem k ≡ true → k ≢ last → aft' k ≡ aft k)
      → IsLine mem bef aft low last → IsLine mem' bef' aft' low p
  line-join up fresh new others bp b ap0 al a line =
      let under : (k : ℕ) → mem k ≡ true → k < p = λ k h. elim (cases_lt k p) [ inl lt ↦ lt | inr ge ↦ clash (mem k) h (fresh k ge) ] in
      let last_under : last < p = elim (cases_lt low last) [ inl lt ↦ under last (line.member lt) | inr ge ↦ omega arith ] in
      let old_mem : (k : ℕ) → mem' k ≡ true → k ≢ p → mem k ≡ true = λ k h ne. sym (others k ne) ∙ h in
      let none_more : (k : ℕ) → k ≢ p → mem k ≡ false → mem' k ≡ false = λ k ne f. others k ne ∙ f in
      record {
        above = λ k h. elim (cases_eq k p) [ inl e ↦ omega arith | inr ne ↦ line.above k (old_mem k h ne) ];
        back = λ k h. elim (cases_eq k p) [
          | inl e ↦ subst (λ x. IsBefore mem' low x (bef' x)) (sym e) (record {
            below = omega arith;
            there = λ lt. ap mem' bp ∙ others last (λ s. omega arith) ∙ line.member (omega arith);
            none = λ j lo hi. none_more j (λ s. omega arith) (line.end j (omega arith));
          })
          | inr ne ↦
              let m = old_mem k h ne in
              let old = line.back k m in
              let e : bef' k ≡ bef k = b k m in
              let kp = under k m in
              record {
                below = let o = old.below in omega arith;
                there = λ lt. let o = old.below in others (bef' k) (λ s. omega arith) ∙ ap mem e ∙ old.there (omega arith);
                none = λ j lo hi. none_more j (λ s. omega arith) (old.none j (omega arith) hi);
              }
        ];
        on = λ k h. elim (cases_eq k p) [
          | inl e ↦ subst (λ x. IsAfter mem' x (aft' x)) (sym e) (record {
            there = λ pos. absurd (omega arith);
            none = λ j lo hi. absurd (omega arith);
            end = λ z j lo. none_more j (λ s. omega arith) (fresh j (omega arith));
          })
          | inr ne ↦
              let m = old_mem k h ne in
              let kp = under k m in
              elim (cases_eq k last) [
                | inl el ↦
                    let lk = line.above k m in
                    let e : aft' k ≡ p = ap aft' el ∙ al (omega arith) in
                    record {
                      there = λ pos. (omega arith, ap mem' e ∙ new);
                      none = λ j lo hi. none_more j (λ s. omega arith) (line.end j (omega arith));
                      end = λ z j lo. absurd (omega arith);
                    }
                | inr nl ↦
                    let old = line.on k m in
                    let e : aft' k ≡ aft k = a k m nl in
                    let some : aft k ≡ 0 → k ≡ last = λ z. elim (cases_lt low last) [
                      | inl lt ↦ elim (cases_lt k last) [ inl l ↦ clash (mem last) (line.member lt) (old.end z last l) | inr g ↦ elim (cases_lt last k) [ inl l ↦ clash (mem k) m (line.end k l) | inr g2 ↦ omega arith ] ]
                      | inr ge ↦ let lk = line.above k m in clash (mem k) m (line.end k (omega arith))
                    ] in
                    record {
                      there = λ pos. let t = old.there (omega arith) in let tu = under (aft k) t.1 in (omega (arith, t.0), others (aft' k) (λ s. omega arith) ∙ ap mem e ∙ t.1);
                      none = λ j lo hi. let t = old.there (omega arith) in let tu = under (aft k) t.1 in none_more j (λ s. omega arith) (old.none j lo (omega arith));
                      end = λ z j lo. absurd (nl (some (omega arith)));
                    }
              ]
        ];
        member = λ _. new;
        end = λ k h. none_more k (λ s. omega arith) (fresh k (omega arith));
      }

-- a member leaves, and its neighbours become neighbours
module _ (mem mem' : ℕ → Bool) (bef bef' aft aft' : ℕ → ℕ) (low last last' p : ℕ) where
  pub line-leave :
      mem p ≡ true → mem' p ≡ false → ((k : ℕ) → k ≢ p → mem' k ≡ mem k)
      → (0 < aft p → bef' (aft p) ≡ bef p) → ((k : ℕ) → mem' k ≡ true → k ≢ aft p → bef' k ≡ bef k)
      → (low < bef p → aft' (bef p) ≡ aft p) → ((k : ℕ) → mem' k ≡ true → k ≢ bef p → aft' k ≡ aft k)
      → (0 < aft p → last' ≡ last) → (aft p ≡ 0 → last' ≡ bef p)
      → IsLine mem bef aft low last → IsLine mem' bef' aft' low last'
  line-leave was gone others ba b ab a ls lz line =
      let pb = line.back p was in
      let pa = line.on p was in
      let lp = line.above p was in
      let old_mem : (k : ℕ) → mem' k ≡ true → (k ≢ p) × (mem k ≡ true) = λ k h. elim (cases_eq k p) [ inl e ↦ clash (mem' k) h (ap mem' e ∙ gone) | inr ne ↦ (ne, sym (others k ne) ∙ h) ] in
      let few : (k : ℕ) → mem k ≡ false → mem' k ≡ false = λ k f. elim (cases_eq k p) [ inl e ↦ ap mem' e ∙ gone | inr ne ↦ others k ne ∙ f ] in
      record {
        above = λ k h. line.above k (old_mem k h).1;
        back = λ k h.
            let m = (old_mem k h).1 in
            let ne = (old_mem k h).0 in
            let old = line.back k m in
            elim (cases_eq k (aft p)) [
              | inl e ↦
                  let lk = line.above k m in
                  let pos : 0 < aft p = omega arith in
                  let t = pa.there pos in
                  let eb : bef' k ≡ bef p = ap bef' e ∙ ba pos in
                  record {
                    below = let o = pb.below in omega (arith, t.0);
                    there = λ lt. others (bef' k) (let o = pb.below in λ s. omega arith) ∙ ap mem eb ∙ pb.there (omega arith);
                    none = λ j lo hi. elim (cases_eq j p) [ inl ep ↦ ap mem' ep ∙ gone | inr np ↦ few j (elim (cases_lt j p) [ inl jp ↦ pb.none j (omega arith) jp | inr pj ↦ pa.none j (omega arith) (omega arith) ]) ];
                  }
              | inr nk ↦
                  let eb : bef' k ≡ bef k = b k h nk in
                  let apart : bef k ≢ p = λ s.
                  elim (cases_lt 0 (aft p)) [
                    | inl pos ↦ let t = pa.there pos in elim (cases_lt k (aft p)) [
                      | inl ka ↦ clash (mem k) m (pa.none k (let o = old.below in omega arith) ka)
                      | inr ak ↦ clash (mem (aft p)) t.1 (old.none (aft p) (omega (arith, t.0)) (omega arith))
                    ]
                    | inr z ↦ clash (mem k) m (pa.end (omega arith) k (let o = old.below in omega arith))
                  ] in
                  record {
                    below = let o = old.below in omega arith;
                    there = λ lt. others (bef' k) (λ s. apart (sym eb ∙ s)) ∙ ap mem eb ∙ old.there (omega arith);
                    none = λ j lo hi. few j (old.none j (omega arith) hi);
                  }
            ];
        on = λ k h.
            let m = (old_mem k h).1 in
            let ne = (old_mem k h).0 in
            let old = line.on k m in
            elim (cases_eq k (bef p)) [
              | inl e ↦
                  let lk = line.above k m in
                  let ea : aft' k ≡ aft p = ap aft' e ∙ ab (omega arith) in
                  let o = pb.below in
                  record {
                    there = λ pos. let t = pa.there (omega arith) in (omega (arith, t.0), others (aft' k) (λ s. omega (arith, t.0)) ∙ ap mem ea ∙ t.1);
                    none = λ j lo hi. elim (cases_eq j p) [ inl ep ↦ ap mem' ep ∙ gone | inr np ↦ few j (elim (cases_lt j p) [ inl jp ↦ pb.none j (omega arith) jp | inr pj ↦ pa.none j (omega arith) (omega arith) ]) ];
                    end = λ z j lo. elim (cases_eq j p) [ inl ep ↦ ap mem' ep ∙ gone | inr np ↦ few j (elim (cases_lt j p) [ inl jp ↦ pb.none j (omega arith) jp | inr pj ↦ pa.end (omega arith) j (omega arith) ]) ];
                  }
              | inr nk ↦
                  let ea : aft' k ≡ aft k = a k h nk in
                  let apart : 0 < aft k → aft k ≢ p = λ pos s.
                  let t = old.there pos in
                  elim (cases_lt k (bef p)) [
                    | inl kb ↦ let lk = line.above k m in let o = pb.below in clash (mem (bef p)) (pb.there (omega arith)) (old.none (bef p) kb (omega arith))
                    | inr bk ↦ clash (mem k) m (pb.none k (omega arith) (omega (arith, t.0)))
                  ] in
                  record {
                    there = λ pos. let t = old.there (omega arith) in (omega (arith, t.0), others (aft' k) (λ s. apart (omega arith) (sym ea ∙ s)) ∙ ap mem ea ∙ t.1);
                    none = λ j lo hi. few j (old.none j lo (omega arith));
                    end = λ z j lo. few j (old.end (omega arith) j lo);
                  }
            ];
        member = λ lt. elim (cases_lt 0 (aft p)) [
          | inl pos ↦ let e = ls pos in let t = pa.there pos in
              elim (cases_eq last p) [ inl s ↦ clash (mem (aft p)) t.1 (line.end (aft p) (omega (arith, t.0))) | inr n ↦ ap mem' e ∙ others last n ∙ line.member (omega arith) ]
          | inr z ↦ let e = lz (omega arith) in let o = pb.below in ap mem' e ∙ others (bef p) (λ s. omega arith) ∙ pb.there (omega arith)
        ];
        end = λ k h. elim (cases_lt 0 (aft p)) [
          | inl pos ↦ let e = ls pos in few k (line.end k (omega arith))
          | inr z ↦ let e = lz (omega arith) in elim (cases_eq k p) [ inl s ↦ ap mem' s ∙ gone | inr n ↦ few k (elim (cases_lt k p) [ inl kp ↦ pb.none k (omega arith) kp | inr pk ↦ pa.end (omega arith) k (omega arith) ]) ]
        ];
      }
