-- Lemmas that definitions rest on. Nothing in this folder needs reading: a definition takes from it
-- only that something can be decided, and the type of the lemma says what.
pub mod RsaSecrets
