-- What is in a log (the accesses of a run, OpenCL 1.2, section 3.3): in a part of it, and in what is kept of it.
use Rattle.std.proofs.Common.{◌⊎◌, List, [], ◌∷◌, ◌++◌, subst, inl, inr}
use Rattle.clmodel.specs.Law.{Logged, Keeps}
use Rattle.clmodel.specs.declared.access.Access.{Access}

pub logged_append : (xs ys : List Access) (x : Access) → Logged (xs ++ ys) x → Logged xs x ⊎ Logged ys x
logged_append [] ys x h = inr h
logged_append (z ∷ xs) ys x (inl e) = inl (inl e)
logged_append (z ∷ xs) ys x (inr h) = go (logged_append xs ys x h)
  where
    go : Logged xs x ⊎ Logged ys x → Logged (z ∷ xs) x ⊎ Logged ys x
    go (inl p) = inl (inr p)
    go (inr p) = inr p

pub logged_front : (xs ys : List Access) (x : Access) → Logged xs x → Logged (xs ++ ys) x
logged_front [] ys x h = absurd h
logged_front (z ∷ xs) ys x (inl e) = inl e
logged_front (z ∷ xs) ys x (inr h) = inr (logged_front xs ys x h)

pub logged_back : (xs ys : List Access) (x : Access) → Logged ys x → Logged (xs ++ ys) x
logged_back [] ys x h = h
logged_back (z ∷ xs) ys x h = inr (logged_back xs ys x h)

-- what is kept of a log was there
pub logged_kept : (log kept : List Access) (x : Access) → Keeps log kept → Logged kept x → Logged log x
logged_kept [] kept x h l = subst (λ z. Logged z x) h l
logged_kept (y ∷ log) kept x (inl h) l = inr (logged_kept log kept x h.1 l)
logged_kept (y ∷ log) kept x (inr h) l = go (logged_kept log h.0 x h.2) (subst (λ z. Logged z x) h.1 l)
  where
    go : (Logged h.0 x → Logged log x) → Logged (y ∷ h.0) x → Logged (y ∷ log) x
    go rest (inl e) = inl e
    go rest (inr m) = inr (rest m)
