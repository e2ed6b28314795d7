-- The texts of errors.
use Rattle.std.specs.Prelude.{ℕ, List, ◌++◌, codes, decimal}
use Rattle.key_core.specs.SignatureErrorText.{signature_error_text}
use Rattle.x509_core.specs.CsrErrorText.{csr_error_text}
use Rattle.x509_core.specs.ErrorText.{cert_error_text}
use Rattle.ca_register.specs.declared.error.IssueError.{IssueError}
use Rattle.ca_register.specs.declared.error.IssueError.TheVariants as errors

-- why a certificate isn't issued
abbrev pub issue_error_text : IssueError → List ℕ
issue_error_text (errors.NoIssuer issuer len) =
    codes "no issuer " ++ decimal issuer ++ codes " among " ++ decimal len
issue_error_text errors.NotCa = codes "the issuer is not a CA"
issue_error_text (errors.TooDeep ancestor) =
    codes "the path length of ancestor " ++ decimal ancestor ++ codes " is too short"
issue_error_text (errors.Request source) = codes "invalid request: " ++ csr_error_text source
issue_error_text (errors.Build source) =
    codes "couldn't build the certificate: " ++ cert_error_text source
issue_error_text (errors.WrongKey source) =
    codes "the key is not that of the issuer's certificate: " ++ signature_error_text source
issue_error_text errors.Memory = codes "out of memory"
