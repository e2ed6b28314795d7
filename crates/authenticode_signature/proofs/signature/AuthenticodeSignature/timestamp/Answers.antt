use Rattle.std.proofs.Common.{inl, inr}
use Rattle.authenticode_signature.proofs.Stamps.{refused_stamp, token_for}
use Rattle.authenticode_signature.proofs.signature.AuthenticodeSignature.timestamp.Goals as goal

pub returns-in-Ok-modify_signed_data-clause-stamped : goal.returns-in-Ok-modify_signed_data-clause-stamped
returns-in-Ok-modify_signed_data-clause-stamped g c =
    record {
      token = c.in-Ok.token;
      given = token_for _ _ _ _ _ _ c.signer_infos.ensures c.in-Some.ensures c.in-Ok.ensures.given;
      left = (c.in-Ok.ensures.same_modification _ _ _).1 c.in-Ok-modify_signed_data.ensures.modified;
    }

pub returns-in-Err-modify_signed_data-clause-refused : goal.returns-in-Err-modify_signed_data-clause-refused
returns-in-Err-modify_signed_data-clause-refused g c =
    refused_stamp _ _ _ _ _ c.in-Err-modify_signed_data.error _ c.of_timestamp-in-Err-modify_signed_data.ensures
    (elim c.in-Err-modify_signed_data.ensures.refused [
      | inr memory ↦ inr memory
      | inl refused ↦ inl (record {
        token = c.in-Ok.token;
        given = token_for _ _ _ _ _ _ c.signer_infos.ensures c.in-Some.ensures c.in-Ok.ensures.given;
        refused = (c.in-Ok.ensures.same_modification _ _ _).1 refused;
      })
    ])
